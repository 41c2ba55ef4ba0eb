use Rattle.std.proofs.Common.{◌≡◌, List, true}
use Rattle.ifdb_pool.specs.Visits.{Visit}
use Rattle.ifdb_pool.specs.Work.{Served}
use Rattle.ifdb_pool.proofs.worker.work.Given as goal

abbrev pub invariant-loop-link : goal.invariant-loop-link
invariant-loop-link g l =
    (l.worker.failed ≡ true) × ((visits : List (Visit _)) × Served g.D.Door g.H.Host l.initial.worker l.worker visits)

abbrev pub decreases-loop-link : goal.decreases-loop-link
decreases-loop-link g l = g.D.Door.most l.worker.door
