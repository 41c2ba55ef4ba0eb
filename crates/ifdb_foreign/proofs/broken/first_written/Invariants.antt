use Rattle.std.proofs.Common.{◌≡◌, length, true}
use Rattle.ifdb_row.specs.Verdict.{is_left}
use Rattle.ifdb_row.specs.Writes.{are_fitting, are_rising}
use Rattle.ifdb_foreign.specs.Left.{first_written}
use Rattle.ifdb_foreign.proofs.broken.first_written.Given as goal

-- the first of all is the first of those that are left
abbrev pub invariant-loop-items : goal.invariant-loop-items
invariant-loop-items l = record {
  same : first_written (is_left l.writes) l.fn.items ≡ first_written (is_left l.writes) l.items;
  rising : are_rising l.items ≡ true;
  fitting : are_fitting l.items ≡ true;
}

abbrev pub decreases-loop-items : goal.decreases-loop-items
decreases-loop-items l = length l.items
