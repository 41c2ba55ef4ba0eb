-- What a reply buffer holds.
use Rattle.std.specs.Prelude.{ℕ, List, Option}

-- a text, and the session that it is spoken for, which is none on a connection
pub record Spoken : Type 0 where
  pub text : List ℕ
  pub session : Option ℕ
