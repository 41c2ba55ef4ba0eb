use Rattle.std.proofs.Common.{vec_capacity}
use Rattle.ifdb_service.specs.Workers.{Hiring}
use Rattle.ifdb_service.proofs.workers.hire.Given as goal

abbrev pub invariant-loop-door : goal.invariant-loop-door
invariant-loop-door g l =
    Hiring g.Q.Records g.S.Settles g.D.Door l.hall l.limit l.fn.keeper l.fn.pass l.pass l.keeper l.fn.doors.items l.workers.items l.door-iterator.rest.items (vec_capacity l.workers)
