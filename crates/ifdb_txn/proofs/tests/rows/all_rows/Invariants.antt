use Rattle.std.proofs.Common.{◌≡◌, true, length}
use Rattle.ifdb_row.specs.Seen.{are_rows_made}
use Rattle.ifdb_txn.proofs.tests.rows.all_rows.Given as goal

abbrev pub invariant-loop-one : goal.invariant-loop-one
invariant-loop-one l = are_rows_made (length l.tags) l.rows.items ≡ true
