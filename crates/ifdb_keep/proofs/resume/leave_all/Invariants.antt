use Rattle.ifdb_model.specs.Run.{State}
use Rattle.ifdb_db.specs.Room.{StandsFor}
use Rattle.ifdb_keep.proofs.Resuming.{Leaving}
use Rattle.ifdb_keep.proofs.resume.leave_all.Given as goal

abbrev pub invariant-each : goal.invariant-each
invariant-each l = record { leaving : (st : State) → StandsFor l.fn.room st → Leaving st l.room l.n }
