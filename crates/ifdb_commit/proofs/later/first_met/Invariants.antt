use Rattle.std.proofs.Common.{◌≡◌, drop}
use Rattle.ifdb_commit.specs.Meeting.{first_met}
use Rattle.ifdb_commit.proofs.later.first_met.Given as goal

abbrev pub invariant-loop-write : goal.invariant-loop-write
invariant-loop-write l = first_met l.tags l.own (drop l.write-index l.later) ≡ first_met l.tags l.own l.later
