-- Labels of made tags.
use Rattle.std.proofs.Common.{◌≡◌, ℕ, ◌+◌, ◌++◌, take, zero, suc, ◌<◌, eqb, filter, get_or, length, map, ◌≤◌, Option, Some, Bool, true, List, [], ◌∷◌, refl, ap, ◌∙◌, arith}
use Rattle.std.specs.Prelude.{flat_map, IsTrue, slice_get, nat_le}
use Rattle.std.specs.List.{list_all}
use Rattle.std.proofs.lemmas.Bool.Decides.{nat_tests}
use Rattle.std.proofs.lemmas.Grind.{common_steps}
use Rattle.ifdb_label.specs.Tags.{are_made}
use Rattle.ifdb_label.specs.Tags.{MadeTag}
use Rattle.ifdb_label.specs.Label.{flows}
use Rattle.ifdb_row.specs.declared.row.Row.{Row}
use Rattle.ifdb_row.specs.Seen.{see}
use Rattle.std.proofs.lemmas.List.Folds.{list_all-append, list_all-map}
use Rattle.ifdb_value.proofs.Lists.{all-filter}
use Rattle.ifdb_bound.specs.declared.select.BoundSource.{BoundSource}
use Rattle.ifdb_bound.specs.declared.select.Relation.{Relation}
use Rattle.ifdb_bound.specs.declared.select.Relation.TheVariants as relation
use Rattle.ifdb_expr.specs.View.{source_row, of_table, table_rows, base_rows}
use Rattle.ifdb_expr.proofs.Views.{combined}
use Rattle.ifdb_bound.specs.Query.{SourceRow, Combination, combinations}
use Rattle.ifdb_row.specs.Seen.{are_rows_made}
use Rattle.ifdb_view.specs.Keyed.{are_sources_keyed, are_views_keyed}
use Rattle.ifdb_view.specs.Made.{is_made, are_all_made, is_view_made, are_views_made}
use Rattle.ifdb_bound.specs.declared.schema.ViewDef.{ViewDef}

flat_made : (n : ℕ) (rows : Combination) → list_all (is_made n) rows ≡ true → are_made n (flat_map (λ (r : SourceRow). r.label) rows) ≡ true
flat_made n [] h = refl
flat_made n (r ∷ rows) h = grind (arith, nat_tests, flat_made n rows, list_all-append (λ t. Rattle.std.specs.Prelude.nat_lt t n) r.label (flat_map (λ (r : SourceRow). r.label) rows))

pub labels_made : (n : ℕ) (rows : Combination) (tags : List ℕ) → IsTrue (list_all (is_made n) rows) → tags ≡ flat_map (λ (r : SourceRow). r.label) rows → IsTrue (are_made n tags)
labels_made n rows tags h e = let k : list_all (is_made n) rows ≡ true = grind arith in let m = flat_made n rows k in grind (arith, e, m)

table_made : (n : ℕ) (tags : List MadeTag) (rows : List Row) (t : ℕ) (label : List ℕ) → are_rows_made n rows ≡ true → list_all (is_made n) (table_rows tags rows t label) ≡ true
table_made n tags rows t label h =
    list_all-map (is_made n) source_row (of_table t (see tags rows label))
    ∙ all-filter (λ (r : Row). eqb r.slot.table t) (λ (r : Row). are_made n r.slot.label) (see tags rows label)
    (all-filter (λ (r : Row). flows tags r.slot.label label) (λ (r : Row). are_made n r.slot.label) rows h)

base_made : (n : ℕ) (tags : List MadeTag) (rows : List Row) (label : List ℕ) (x : Relation) → are_rows_made n rows ≡ true → list_all (is_made n) (base_rows tags rows label x) ≡ true
base_made n tags rows label (relation.Table t) h = table_made n tags rows t label h
base_made n tags rows label (relation.View v) h = refl

bases_made : (n : ℕ) (tags : List MadeTag) (rows : List Row) (label : List ℕ) (sources : List BoundSource) → are_rows_made n rows ≡ true
    → are_all_made n (map (λ (s : BoundSource). base_rows tags rows label s.relation) sources) ≡ true
bases_made n tags rows label [] h = refl
bases_made n tags rows label (s ∷ sources) h = grind (arith, nat_tests, base_made n tags rows label s.relation h, bases_made n tags rows label sources h)

pub matches_made : (n : ℕ) (tags : List MadeTag) (rows : List Row) (label : List ℕ) (sources : List BoundSource) (p : Combination → Bool) (shown : List (List SourceRow)) (frames : List Combination) → IsTrue (are_rows_made n rows)
    → shown ≡ map (λ (s : BoundSource). base_rows tags rows label s.relation) sources → frames ≡ filter p (combinations shown) → IsTrue (are_all_made n frames)
matches_made n tags rows label sources p shown frames h e f =
    let k : are_rows_made n rows ≡ true = grind arith in
    let all : are_all_made n shown ≡ true = ap (are_all_made n) e ∙ bases_made n tags rows label sources k in
    let kept : are_all_made n frames ≡ true = ap (are_all_made n) f ∙ all-filter p (list_all (is_made n)) (combinations shown) (combined (is_made n) shown all) in
    grind (arith, kept)

-- a combination among others
pub one_made : (n : ℕ) (all : List Combination) (i : ℕ) (c : Combination) → i < length all → c ≡ get_or all i c → IsTrue (are_all_made n all) → IsTrue (list_all (is_made n) c)
one_made n [] i c l e h = absurd (omega arith)
one_made n (x ∷ all) zero c l e h = let p : (list_all (is_made n) x ≡ true) × (are_all_made n all ≡ true) = grind (arith, nat_tests) in let q : list_all (is_made n) c ≡ true = ap (list_all (is_made n)) e ∙ p.0 in grind (arith, q)
one_made n (x ∷ all) (suc i) c l e h = let p : are_all_made n all ≡ true = grind (arith, nat_tests) in one_made n all i c (omega arith) e (grind (arith, p))

-- a view among others
view_at : (n : ℕ) (views : List ViewDef) (i : ℕ) (v : ViewDef) → slice_get views i ≡ Some v → are_views_made n views ≡ true → is_view_made n v ≡ true
view_at n [] i v e h = cc
view_at n (x ∷ views) zero v e h = let p : is_view_made n x ≡ true = grind (arith, nat_tests) in let s : x ≡ v = cc in ap (is_view_made n) (Rattle.std.proofs.Common.sym s) ∙ p
view_at n (x ∷ views) (suc i) v e h = view_at n views i v e (grind (arith, nat_tests))

pub view_made : (n : ℕ) (views : List ViewDef) (i : ℕ) (v : ViewDef) → slice_get views i ≡ Some v → IsTrue (are_views_made n views) → IsTrue (are_made n v.declassifying) × (length v.select.sources ≤ 4)
view_made n views i v e h =
    let k : are_views_made n views ≡ true = grind arith in
    let m : is_view_made n v ≡ true = view_at n views i v e k in
    let p : (are_made n v.declassifying ≡ true) × (nat_le (length v.select.sources) 4 ≡ true) = grind (arith, nat_tests) in
    let a = p.0 in let b = p.1 in (grind (arith, a), grind (arith, nat_tests, b))

views_keyed_at : (rows : List Row) (views : List ViewDef) (i : ℕ) (v : ViewDef) → slice_get views i ≡ Some v → are_views_keyed rows views ≡ true → are_sources_keyed rows v.select.sources ≡ true
views_keyed_at rows [] i v e h = cc
views_keyed_at rows (x ∷ views) zero v e h = let p : are_sources_keyed rows x.select.sources ≡ true = grind (arith, nat_tests) in let s : x ≡ v = cc in ap (λ (w : ViewDef). are_sources_keyed rows w.select.sources) (Rattle.std.proofs.Common.sym s) ∙ p
views_keyed_at rows (x ∷ views) (suc i) v e h = views_keyed_at rows views i v e (grind (arith, nat_tests))

pub view_keyed : (rows : List Row) (views : List ViewDef) (i : ℕ) (v : ViewDef) → slice_get views i ≡ Some v → IsTrue (are_views_keyed rows views) → IsTrue (are_sources_keyed rows v.select.sources)
view_keyed rows views i v e h = let k : are_views_keyed rows views ≡ true = grind arith in let m = views_keyed_at rows views i v e k in grind (arith, m)

-- one source more
pub keyed_more : {A B : Type 0} (p : A → Bool) (q : B → Bool) (xs : List A) (i : ℕ) (x : A) (ys : List B) (y : B) → i < length xs → x ≡ get_or xs i x → (list_all p (take i xs) ≡ true → list_all q ys ≡ true) → (p x ≡ true → q y ≡ true)
    → list_all p (take (i + 1) xs) ≡ true → list_all q (ys ++ y ∷ []) ≡ true
keyed_more p q xs i x ys y h e f g k =
    let longer : take (i + 1) xs ≡ take i xs ++ x ∷ [] = grind (arith, common_steps) in
    let both : list_all p (take i xs ++ x ∷ []) ≡ true = ap (list_all p) (Rattle.std.proofs.Common.sym longer) ∙ k in
    let cut = list_all-append p (take i xs) (x ∷ []) in
    let join = list_all-append q ys (y ∷ []) in
    grind (arith, nat_tests, cut, join, both)
