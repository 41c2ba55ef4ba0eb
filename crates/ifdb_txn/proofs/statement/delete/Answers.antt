use Rattle.ifdb_txn.proofs.ByKey.{schema_keyed}
use Rattle.ifdb_txn.proofs.statement.delete.Goals as goal

pub delete_matched-requires-clause-keyed : goal.delete_matched-requires-clause-keyed
delete_matched-requires-clause-keyed g c = schema_keyed c.args.writer.now.catalog.now c.args.table c.in-Some.schema.now (g.R.Rows.rows c.args.rows.now) c.requires.rows_keyed c.in-Some.ensures
