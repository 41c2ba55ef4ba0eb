use Rattle.std.proofs.Common.{◌≡◌, ◌∙◌, ◌++◌, ◌∷◌, ◌+◌, List, ap, sym, take, drop, rules}
use Rattle.std.proofs.lemmas.List.{drop_more, take-append-drop}
use Rattle.ifdb_row.specs.declared.row.Row.{Row}
use Rattle.ifdb_row.specs.Content.{rising}
use Rattle.ifdb_store.specs.Pages.{flat}
use Rattle.ifdb_store.proofs.Joining.{rising_next}
use Rattle.ifdb_store.proofs.join.all_joined.Goals as goal

pub add_joined-requires-clause-rising : goal.add_joined-requires-clause-rising
add_joined-requires-clause-rising c =
    let pages = c.args.pages.now in
    let i = c.loop-page.page-index in
    let page = c.page-item.result in
    let same : c.in_ok-shared.field-0 ≡ page = search rules in
    let here : pages ≡ take i pages ++ page ∷ drop (i + 1) pages =
    sym (take-append-drop i pages) ∙ ap (λ ps. take i pages ++ ps) (drop_more pages i page c.loop-page-test.true ∙ ap (λ (p : List Row). p ∷ drop (i + 1) pages) (sym c.page-item.is)) in
    ap (λ r. rising (r ++ c.in_ok-shared.field-0)) c.loop-page.invariant.rows ∙ (ap (λ p. rising (flat (take i pages) ++ p)) same ∙ rising_next pages (take i pages) (drop (i + 1) pages) page here c.requires.rising)
