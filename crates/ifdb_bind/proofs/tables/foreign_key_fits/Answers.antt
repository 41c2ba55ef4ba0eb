use Rattle.std.proofs.Common.{◌∙◌, ap, sym, []}
use Rattle.ifdb_bound.specs.declared.schema.Schema.{Schema}
use Rattle.ifdb_catalog.specs.Definitions.{same_kinds}
use Rattle.ifdb_select.proofs.Columns.{no_table_at}
use Rattle.ifdb_bind.proofs.tables.foreign_key_fits.Goals as goal

pub returns-in-None : goal.returns-in-None
returns-in-None c =
    let columns = c.args.columns.now in
    let key = c.args.key.now in
    c.same_kinds-in-None.ensures
    ∙ (ap (λ places. same_kinds columns places [] []) c.items-in-None.ensures
    ∙ ap (λ (t : Schema). same_kinds columns key.columns t.columns t.key) (no_table_at c.args.catalog.now key.parent (sym c.in-None.ensures.value)))
