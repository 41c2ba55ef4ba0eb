use Rattle.std.proofs.Common.{◌≡◌, ◌++◌, length, None}
use Rattle.std.specs.Prelude.{IfSome, IsTrue, filter, map}
use Rattle.ifdb_row.specs.Ranges.{is_slot_in, rows_within}
use Rattle.ifdb_row.specs.ByReference.{option_slot, row_of}
use Rattle.ifdb_txn.specs.Matches.{is_wanted}
use Rattle.ifdb_txn.proofs.matched.matched_within.Given as goal

-- the rows so far with those behind; the last slot is one of the range
abbrev pub invariant-loop-last : goal.invariant-loop-last
invariant-loop-last g l = record {
  after : IfSome (option_slot l.after) (λ s. IsTrue (is_slot_in l.target.table l.range s));
  kept : map row_of l.found.items ++ filter (is_wanted l.target.from.tags.now l.cond l.target.from.label.now) (rows_within l.target.table l.range (option_slot l.after) (g.R.Rows.rows l.rows))
      ≡ filter (is_wanted l.target.from.tags.now l.cond l.target.from.label.now) (rows_within l.target.table l.range None (g.R.Rows.rows l.rows));
}

abbrev pub decreases-loop-last : goal.decreases-loop-last
decreases-loop-last g l = length (rows_within l.target.table l.range (option_slot l.after) (g.R.Rows.rows l.rows))
