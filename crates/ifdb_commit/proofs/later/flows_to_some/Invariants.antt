use Rattle.std.proofs.Common.{◌≡◌, false, take}
use Rattle.ifdb_row.specs.Verdict.{meets}
use Rattle.ifdb_commit.proofs.later.flows_to_some.Given as goal

abbrev pub invariant-loop-write : goal.invariant-loop-write
invariant-loop-write l = meets l.tags (take l.write-index l.own) l.slot ≡ false
