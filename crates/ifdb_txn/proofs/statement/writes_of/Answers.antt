use Rattle.std.proofs.Common.{sym, ap, ◌∙◌}
use Rattle.ifdb_catalog.specs.Public.{table_at}
use Rattle.ifdb_txn.proofs.ByKey.{schema_keyed}
use Rattle.ifdb_txn.proofs.statement.writes_of.Goals as goal

pub update_matched-requires-clause-keyed : goal.update_matched-requires-clause-keyed
update_matched-requires-clause-keyed g c =
    schema_keyed c.args.writer.now.catalog.now c.in-Ok-target.target.table c.in-Ok-target.target.schema.now (g.R.Rows.rows c.args.rows.now) c.requires.rows_keyed
    (ap (table_at c.args.writer.now.catalog.now) c.in-Ok-target.ensures.table ∙ sym c.in-Ok-target.ensures.schema)
