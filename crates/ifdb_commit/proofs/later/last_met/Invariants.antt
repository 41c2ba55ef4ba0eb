use Rattle.std.proofs.Common.{◌≡◌, take}
use Rattle.ifdb_commit.specs.Meeting.{named, last_met}
use Rattle.ifdb_commit.proofs.later.last_met.Given as goal

abbrev pub invariant-loop-commit : goal.invariant-loop-commit
invariant-loop-commit l = named l.found ≡ last_met l.tags l.own l.begin (take l.commit-index l.commits)
