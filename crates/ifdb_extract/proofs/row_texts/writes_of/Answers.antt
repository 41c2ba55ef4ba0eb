use Rattle.std.proofs.Common.{◌≡◌, ◌+◌, ◌∙◌, ◌++◌, ◌∷◌, [], ap, sym, take}
use Rattle.std.proofs.lemmas.Option.{get_or_from_slice_get, slice_get_within}
use Rattle.std.proofs.lemmas.List.{take_more}
use Rattle.ifdb_row.specs.Runs.{rows_in}
use Rattle.ifdb_restore.specs.Shorter.{writing}
use Rattle.ifdb_extract.proofs.row_texts.writes_of.Goals as goal

pub loop-place-preserved : goal.loop-place-preserved
loop-place-preserved c =
    let ws = writing (rows_in c.args.run) in
    let i = c.loop-place.place in
    let w = c.in_ok-write.write in
    let more : take (i + 1) ws ≡ take i ws ++ w ∷ [] = take_more ws i w (slice_get_within ws i w c.in_ok-write.ensures) ∙ ap (λ v. take i ws ++ v ∷ []) (get_or_from_slice_get ws i w w c.in_ok-write.ensures) in
    c.in_ok-push.ensures.items ∙ ap (λ l. l ++ w ∷ []) c.loop-place.invariant ∙ sym more
