-- decides: a served database
-- Connections that were served, and are over.
use Rattle.std.specs.Prelude.{ℕ}
use Rattle.ifdb_loop.specs.declared.over.Over.{Over}

-- a connection as it was given back, and the number of the session that served it
pub record Visit (P : Type 0) : Type 0 where
  pub over : Over P
  pub number : ℕ
