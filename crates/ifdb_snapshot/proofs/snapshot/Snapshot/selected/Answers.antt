use Rattle.std.proofs.Common.{ap, sym, ◌∙◌}
use Rattle.ifdb_wire.specs.declared.reply.Reply.TheVariants as reply
use Rattle.ifdb_catalog.specs.Public.{Public, tag_names}
use Rattle.ifdb_model.specs.Query.{select_reply}
use Rattle.ifdb_model.specs.Session.{Seen}
use Rattle.ifdb_snapshot.proofs.Selecting.{table_told, fault_told, refused_as}
use Rattle.ifdb_snapshot.proofs.snapshot.Snapshot.selected.Goals as goal

pub returns-in-Ok-clause-told : goal.returns-in-Ok-clause-told
returns-in-Ok-clause-told c =
    let names = c.names.ensures.names ∙ ap tag_names (sym c.catalog-catalog.ensures) in
    let told = table_told c.catalog-catalog.result.now c.self.inside.rows.now c.args.label.now c.args.select.now c.tags.result.now c.names.result.now c.tags.ensures names c.in-Ok.rows c.in-Ok.ensures in
    ap (λ (x : Seen). select_reply x.public x.rows c.args.label.now c.args.select.now) (sym c.self.view_is)
    ∙ ap (λ (p : Public). select_reply p c.self.inside.rows.now c.args.label.now c.args.select.now) (sym c.catalog-catalog.ensures)
    ∙ told ∙ ap (λ n. reply.Rows (record { columns = n; rows = c.in-Ok.rows })) (sym c.len.ensures)

pub returns-in-Err-clause-refused : goal.returns-in-Err-clause-refused
returns-in-Err-clause-refused c =
    let names = c.names.ensures.names ∙ ap tag_names (sym c.catalog-catalog.ensures) in
    let told = fault_told c.catalog-catalog.result.now c.self.inside.rows.now c.args.label.now c.args.select.now c.tags.result.now c.names.result.now c.tags.ensures names c.in-Err.fault c.in-Err.ensures in
    refused_as c.view_fault.ensures
    (ap (λ (x : Seen). select_reply x.public x.rows c.args.label.now c.args.select.now) (sym c.self.view_is)
    ∙ ap (λ (p : Public). select_reply p c.self.inside.rows.now c.args.label.now c.args.select.now) (sym c.catalog-catalog.ensures)) told
