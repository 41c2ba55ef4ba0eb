use Rattle.std.proofs.Common.{◌≡◌, true, length}
use Rattle.ifdb_row.specs.Seen.{are_rows_made}
use Rattle.test_foreign.proofs.tests.all_rows.Given as goal

abbrev pub invariant-loop-put : goal.invariant-loop-put
invariant-loop-put l = are_rows_made (length l.tags) l.rows.items ≡ true
