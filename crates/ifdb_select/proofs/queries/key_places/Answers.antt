use Rattle.std.proofs.Common.{ap, sym}
use Rattle.ifdb_bound.specs.declared.schema.Schema.{Schema}
use Rattle.ifdb_select.proofs.Columns.{no_table_at}
use Rattle.ifdb_select.proofs.queries.key_places.Goals as goal

pub returns-in-None : goal.returns-in-None
returns-in-None c = ap (λ (t : Schema). t.key) (no_table_at c.args.catalog.now c.args.table (sym c.in-None.ensures.value))
