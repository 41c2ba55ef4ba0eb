use Rattle.std.proofs.Common.{◌≡◌, true, length}
use Rattle.ifdb_row.specs.Seen.{are_rows_made}
use Rattle.ifdb_key.proofs.tests.all_rows.Given as goal

abbrev pub invariant-loop-keyed : goal.invariant-loop-keyed
invariant-loop-keyed l = are_rows_made (length l.tags) l.rows.items ≡ true
