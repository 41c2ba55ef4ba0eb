-- Tables and views by their numbers.
use Rattle.std.proofs.Common.{◌≡◌, ap, ◌∙◌, sym, ℕ, Bool, true, List, [], ◌∷◌, length, Option, Some, None, arith}
use Rattle.std.specs.Prelude.{◌&&◌, ◌==◌, zero, suc, slice_get, unwrap_or}
use Rattle.std.proofs.lemmas.Option.{unwrap_or-slice_get}
use Rattle.std.specs.List.{list_all}
use Rattle.std.proofs.Common.{◌≤◌, ◌-◌, get_or, take, drop}
use Rattle.std.proofs.lemmas.Grind.{common_steps}
use Rattle.std.proofs.lemmas.Bool.Decides.{nat_tests}
use Rattle.ifdb_bound.specs.declared.schema.Schema.{Schema}
use Rattle.ifdb_bound.specs.declared.schema.ViewDef.{ViewDef}
use Rattle.ifdb_catalog.specs.Public.{Public, no_table, no_view, table_at, view_at}
use Rattle.ifdb_catalog.specs.Fits.{is_over_table, label_fits, query_fits, state_fits, view_fits}
use Rattle.ifdb_catalog.proofs.Tests.{rest_of}

-- a list that isn't empty is its first item and the rest
pub first_and_rest : {X : Type 0} (xs : List X) (x : X) → 1 ≤ length xs → x ≡ get_or xs 0 x → xs ≡ x ∷ take (length xs - 1) (drop 1 xs)
first_and_rest [] x h e = absurd (omega arith)
first_and_rest (y ∷ ys) x h e = grind (arith, common_steps)

-- ---- a view's columns

-- what holds of all holds of the one at a place
all_at : {X : Type 0} (test : X → Bool) (xs : List X) (n : ℕ) (x : X) → slice_get xs n ≡ Some x → list_all test xs ≡ true → test x ≡ true
all_at test [] n x h k = cc
all_at test (y ∷ xs) zero x h k = grind (arith, nat_tests)
all_at test (y ∷ xs) (suc n) x h k = all_at test xs n x h (rest_of (test y) (list_all test xs) k)

third : (a b c d : Bool) → a && (b && (c && d)) ≡ true → c ≡ true
third a b c d h = grind (arith, nat_tests)

-- a view has a name for each item
is_even : (p : Public) (v : ViewDef) → view_fits p v ≡ true → length v.names ≡ length v.select.items
is_even p v h =
    let even : (length v.names == length v.select.items) ≡ true =
    third (query_fits p v.select) (list_all is_over_table v.select.sources) _ (label_fits p v.declassifying) h in
    grind (arith, nat_tests)

-- the view of a number, where it is made
pub made_view : (p : Public) (n : ℕ) (v : ViewDef) → slice_get p.views n ≡ Some v → v ≡ view_at p n
made_view p n v k = ap (λ (o : Option ViewDef). unwrap_or o no_view) (sym k) ∙ unwrap_or-slice_get p.views n no_view

-- it has as many names as items
pub made_is_even : (p : Public) (n : ℕ) (v : ViewDef) → state_fits p ≡ true → slice_get p.views n ≡ Some v → length v.names ≡ length v.select.items
made_is_even p n v h k = is_even p v (all_at (view_fits p) p.views n v k (rest_of _ (list_all (view_fits p) p.views) h))

-- a number that is no view's
pub no_view_at : (p : Public) (n : ℕ) → slice_get p.views n ≡ None → no_view ≡ view_at p n
no_view_at p n k = ap (λ (o : Option ViewDef). unwrap_or o no_view) (sym k) ∙ unwrap_or-slice_get p.views n no_view

-- a number that is no table's has no table
pub no_table_at : (p : Public) (n : ℕ) → slice_get p.tables n ≡ None → no_table ≡ table_at p n
no_table_at p n k = ap (λ (o : Option Schema). unwrap_or o no_table) (sym k) ∙ unwrap_or-slice_get p.tables n no_table
