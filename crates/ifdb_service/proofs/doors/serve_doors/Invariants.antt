use Rattle.std.proofs.Common.{length, ◌+◌, ◌≤◌, vec_capacity}
use Rattle.ifdb_service.specs.Workers.{Joining}
use Rattle.ifdb_service.proofs.doors.serve_doors.Given as goal

abbrev pub invariant-loop-worker : goal.invariant-loop-worker
invariant-loop-worker g l =
    Joining g.Q.Records g.S.Settles g.D.Door l.hall l.limit l.fn.keeper g.D.Link.Source g.D.Link.Sink l.fn.pass l.pass l.keeper l.fn.doors.items l.worker-iterator.rest.items l.back.items l.faults
    × (length l.back.items + length l.worker-iterator.rest.items ≤ vec_capacity l.back)
