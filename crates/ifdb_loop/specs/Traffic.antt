-- decides: a served database
-- What a port tells of itself.
use Rattle.std.specs.Prelude.{ℕ, List, Option}

pub record Traffic : Type 0 where
  -- the bytes that it gave so far
  pub given : Option (List ℕ)
  -- the bytes that are left
  pub left : Option (List ℕ)
  -- the bytes that were written so far
  pub written : Option (List ℕ)
  -- how often reading has failed, up to 2^64 - 1
  pub unread : ℕ
  -- how often writing has failed, up to 2^64 - 1
  pub unwritten : ℕ

-- what a port in memory shows
pub record Ported : Type 0 where
  -- the bytes that it gave
  pub given : List ℕ
  -- the bytes that it hasn't given yet
  pub left : List ℕ
  -- the bytes that it took
  pub written : List ℕ
  -- how often reading has failed, up to 2^64 - 1
  pub unread : ℕ
  -- how often writing has failed, up to 2^64 - 1
  pub unwritten : ℕ
