-- Parts of a list as nodes.
use Rattle.std.proofs.Common.{◌≡◌, ℕ, ◌<◌, ◌≤◌, ◌+◌, Bool, true, List, [], ◌∷◌, ◌++◌, length, take, drop, refl, ap, ◌∙◌, arith}
use Rattle.std.specs.List.{list_all, flat_map}
use Rattle.std.proofs.lemmas.Bool.Decides.{nat_tests}
use Rattle.std.proofs.lemmas.Grind.{common_steps, flat_map-append}
use Rattle.std.proofs.lemmas.List.{append-nil}
use Rattle.ifdb_row.specs.declared.row.Row.{Row}
use Rattle.ifdb_row.specs.Content.{rising}
use Rattle.ifdb_store.specs.Pages.{are_full, in_nodes, is_full_page, is_node}
use Rattle.ifdb_store.proofs.PartLemmas.{rising_parts}
use Rattle.ifdb_store.proofs.WriteLemmas.{all_take, all_drop}

-- pages are full
pub full_pages : (pages : List (List Row)) → list_all is_full_page pages ≡ true
full_pages [] = refl
full_pages (page ∷ pages) = full_pages pages

-- some of many full parts are a node
pub is_cut : {X : Type 0} (rows : X → List Row) (is_part is_full : X → Bool) (parts : List X) (n k : ℕ) → 1 < length parts → are_full is_full parts ≡ true → list_all is_part parts ≡ true
    → rising (flat_map rows parts) ≡ true → 0 < k → k ≤ 32 → n + k ≤ length parts → is_node rows is_part is_full (take k (drop n parts)) ≡ true
is_cut rows is_part is_full parts n k many full good up some few within =
    let all : list_all is_full parts ≡ true = grind (arith, nat_tests) in
    let full_cut = all_take is_full k (drop n parts) (all_drop is_full n parts all) in
    let good_cut = all_take is_part k (drop n parts) (all_drop is_part n parts good) in
    let up_cut = rising_parts rows n k parts up in
    let long : length (take k (drop n parts)) ≡ k = grind (arith, common_steps) in
    grind (arith, nat_tests)

-- one node more
pub node_more : {X : Type 0} (rows : X → List Row) (nodes : List (List X)) (node : List X) → in_nodes rows (nodes ++ node ∷ []) ≡ in_nodes rows nodes ++ flat_map rows node
node_more rows nodes node = flat_map-append (flat_map rows) nodes (node ∷ []) ∙ ap (λ r. in_nodes rows nodes ++ r) (append-nil (flat_map rows node))
