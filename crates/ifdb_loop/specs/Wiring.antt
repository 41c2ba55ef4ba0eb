-- What a connection keeps between its turns.
use Rattle.std.specs.Prelude.{ℕ, List}

pub record Wiring : Type 0 where
  -- the bytes that came and aren't asked yet
  pub held : List ℕ
  -- the bytes that aren't written yet
  pub owed : List ℕ
