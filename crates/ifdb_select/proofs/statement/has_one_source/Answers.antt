use Rattle.std.proofs.Common.{ap, sym, length}
use Rattle.std.specs.Prelude.{◌==◌}
use Rattle.ifdb_bound.specs.declared.schema.ViewDef.{ViewDef}
use Rattle.ifdb_select.proofs.Columns.{no_view_at}
use Rattle.ifdb_select.proofs.statement.has_one_source.Goals as goal

pub returns-in-None : goal.returns-in-None
returns-in-None c = ap (λ (v : ViewDef). length v.select.sources == 1) (no_view_at c.args.catalog.now c.args.view (sym c.in-None.ensures.value))
