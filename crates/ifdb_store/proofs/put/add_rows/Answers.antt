use Rattle.std.proofs.Common.{◌≡◌, ◌+◌, ◌∙◌, ◌++◌, ◌∷◌, [], ap, map, sym, take}
use Rattle.std.proofs.lemmas.List.{append_assoc, map-append}
use Rattle.std.proofs.lemmas.Option.{get_or_from_slice_get, slice_get_within}
use Rattle.std.proofs.lemmas.List.{take_more}
use Rattle.ifdb_row.specs.ByReference.{row_of}
use Rattle.ifdb_row.specs.Runs.{rows_in}
use Rattle.ifdb_store.proofs.put.add_rows.Goals as goal

pub loop-place-preserved : goal.loop-place-preserved
loop-place-preserved c =
    let rows = rows_in c.args.rows in
    let i = c.loop-place.place in
    let row = row_of c.row.result in
    let more : take (i + 1) rows ≡ take i rows ++ row ∷ [] = take_more rows i row (slice_get_within rows i row c.row.ensures) ∙ ap (λ r. take i rows ++ r ∷ []) (get_or_from_slice_get rows i row row c.row.ensures) in
    let old = map row_of c.args.out.now.items in
    ap (map row_of) c.in_ok-push.ensures.items
    ∙ (map-append row_of c.loop-place.out.items (c.row.result ∷ [])
    ∙ (ap (λ rs. rs ++ row ∷ []) c.loop-place.invariant
    ∙ (append_assoc old (take i rows) (row ∷ []) ∙ ap (λ rs. old ++ rs) (sym more))))
