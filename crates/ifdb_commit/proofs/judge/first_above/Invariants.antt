use Rattle.std.proofs.Common.{◌≡◌, drop}
use Rattle.std.specs.Prelude.{find}
use Rattle.ifdb_row.specs.Verdict.{is_above}
use Rattle.ifdb_commit.proofs.judge.first_above.Given as goal

abbrev pub invariant-loop-write : goal.invariant-loop-write
invariant-loop-write l = find (is_above l.tags l.label) (drop l.write-index l.writes) ≡ find (is_above l.tags l.label) l.writes
