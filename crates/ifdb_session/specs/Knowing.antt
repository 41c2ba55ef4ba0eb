-- A thread knows no less later: the laws of what waits for a disk.
use Rattle.std.specs.Prelude.{ℕ, ◌≤◌, refl}
use Rattle.std.proofs.Common.{◌∙◌}
use Rattle.std.proofs.Math.Nat.{le_trans}
use Rattle.ifdb_durable.specs.declared.naming.Naming as naming
use Rattle.ifdb_durable.proofs.Begins.{begins_all, begins_on}
use Rattle.ifdb_session.specs.declared.durable.Durable.{Durable}
use Rattle.ifdb_session.specs.Durable.{GoesOn, KnowsFailed, KnowsOnDisk}

module _ {B D : Type 0} {named : naming.Ghosts B} where
  pub knows_itself : (s : Durable B D named) → GoesOn s s
  knows_itself s = (refl, begins_all s.member.receipt)

  pub knows_further : (r s t : Durable B D named) → GoesOn r s → GoesOn s t → GoesOn r t
  knows_further r s t p q = (q.0 ∙ p.0, begins_on r.member.receipt s.member.receipt t.member.receipt p.1 q.1)

  pub still_on_disk : (s t : Durable B D named) (n : ℕ) → GoesOn s t → KnowsOnDisk s n → KnowsOnDisk t n
  still_on_disk s t n goes kept = (kept.0, begins_on kept.0 s.member.receipt t.member.receipt kept.1 goes.1, kept.2)

  pub fewer_on_disk : (s : Durable B D named) (m n : ℕ) → m ≤ n → KnowsOnDisk s n → KnowsOnDisk s m
  fewer_on_disk s m n fewer kept = (kept.0, kept.1, le_trans fewer kept.2)

  pub still_failed : (s t : Durable B D named) → GoesOn s t → KnowsFailed s → KnowsFailed t
  still_failed s t goes failed = goes.1.1 failed
