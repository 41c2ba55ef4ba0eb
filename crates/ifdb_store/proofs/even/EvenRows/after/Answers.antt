use Rattle.std.proofs.Common.{◌≡◌, ◌∙◌, [], ◌∷◌, IfOk, ap, subst, sym, true, Some, None}
use Rattle.std.specs.Prelude.{IfSome}
use Rattle.ifdb_row.specs.ByReference.{row_of, slot_of}
use Rattle.ifdb_row.specs.Content.{place, rising}
use Rattle.ifdb_row.specs.Runs.{even_rows, rows_even}
use Rattle.ifdb_store.specs.Splices.{cells_put, put_in, rows_put}
use Rattle.ifdb_store.proofs.Splicing.{place_none, place_row}
use Rattle.ifdb_store.proofs.even.EvenRows.after.Goals as goal

pub returns-in-Some : goal.returns-in-Some
returns-in-Some c =
    let run = c.run-rows.result in
    let rows = rows_even run in
    let q = slot_of c.by_ref.result in
    let g = c.gap_for-gap.result in
    let x = row_of c.by_ref-in-Some.result in
    let w = c.args.write.now in
    let rises : rising rows ≡ true = ap rising c.run-rows.ensures ∙ c.requires in
    let is : x ≡ c.in-Some.row = c.by_ref-in-Some.ensures ∙ c.get.ensures in
    let put : put_in g (x ∷ []) rows ≡ place w.slot w.row c.args.self.now =
    sym (place_row q x rows g.from g.to rises c.gap_for-gap.ensures.from c.gap_for-gap.ensures.to)
    ∙ (ap (λ s. place s (Some x) rows) c.by_ref.ensures
    ∙ (ap (place w.slot (Some x)) c.run-rows.ensures
    ∙ (ap (λ r. place w.slot (Some r) c.args.self.now) is ∙ sym (ap (λ o. place w.slot o c.args.self.now) c.in-Some.is)))) in
    subst (λ all. IfOk c.with.result (λ made. IfSome made (λ even. even ≡ all))) put c.with.ensures

pub returns-in-None : goal.returns-in-None
returns-in-None c =
    let run = c.run-rows.result in
    let rows = rows_even run in
    let q = slot_of c.by_ref.result in
    let g = c.gap_for-gap.result in
    let i = c.none.result in
    let w = c.args.write.now in
    let rises : rising rows ≡ true = ap rising c.run-rows.ensures ∙ c.requires in
    let nothing : rows_put run i ≡ [] = ap (λ hs. even_rows run.key run.width hs i.refs.now (cells_put i)) c.none.ensures.heads in
    let put : put_in g (rows_put run i) rows ≡ place w.slot w.row c.args.self.now =
    ap (λ new. put_in g new rows) nothing
    ∙ (sym (place_none q rows g.from g.to rises c.gap_for-gap.ensures.from c.gap_for-gap.ensures.to)
    ∙ (ap (λ s. place s None rows) c.by_ref.ensures ∙ (ap (place w.slot None) c.run-rows.ensures ∙ sym (ap (λ o. place w.slot o c.args.self.now) c.in-None.is)))) in
    subst (λ all. IfOk c.spliced.result (λ made. IfSome made (λ even. even ≡ all))) put c.spliced.ensures
