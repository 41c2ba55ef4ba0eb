use Rattle.std.proofs.Common.{◌<◌, ◌∙◌, Some, ap, length, refl, subst, sym}
use Rattle.std.specs.Prelude.{slice_get}
use Rattle.std.proofs.lemmas.Option.{slice_get_read}
use Rattle.ifdb_row.specs.Runs.{rows_in}
use Rattle.ifdb_row.proofs.run.Run.row.Goals as goal

pub row-requires : goal.row-requires
row-requires c = subst (λ r. c.args.place < length (rows_in r)) c.in-Even.is c.requires

pub returns-in-Loose : goal.returns-in-Loose
returns-in-Loose c =
    let rows = c.in-Loose.rows.now in
    let lt : c.args.place < length rows = subst (λ r. c.args.place < length (rows_in r)) c.in-Loose.is c.requires in
    ap (λ r. slice_get (rows_in r) c.args.place) c.in-Loose.is
    ∙ (slice_get_read rows (length rows) c.args.place c.index-rows-place.result refl lt c.index-rows-place.is ∙ ap Some (sym (c.by_ref.ensures ∙ c.get.ensures)))
