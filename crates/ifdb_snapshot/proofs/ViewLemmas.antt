-- What views declassify.
use Rattle.std.proofs.Common.{◌≡◌, ℕ, zero, suc, Bool, true, false, List, [], ◌∷◌, length, arith, Some, refl, ap, sym, ◌∙◌, ◌&&◌}
use Rattle.std.specs.Prelude.{slice_get, ◌==◌}
use Rattle.std.specs.List.{list_all}
use Rattle.std.proofs.lemmas.Bool.Decides.{nat_tests}
use Rattle.ifdb_label.specs.Tags.{are_made}
use Rattle.ifdb_bound.specs.declared.schema.ViewDef.{ViewDef}
use Rattle.ifdb_catalog.specs.Public.{Public}
use Rattle.ifdb_label.specs.Label.{is_rising}
use Rattle.ifdb_catalog.specs.Fits.{is_over_table, label_fits, query_fits, schema_fits, state_fits, view_fits}

one_fits : (p : Public) (views : List ViewDef) (id : ℕ) (v : ViewDef) → list_all (view_fits p) views ≡ true → slice_get views id ≡ Some v → view_fits p v ≡ true
one_fits p [] id v h e = cc
one_fits p (x ∷ views) zero v h e = let same : x ≡ v = cc in ap (view_fits p) (sym same) ∙ grind (arith, nat_tests)
one_fits p (x ∷ views) (suc id) v h e = one_fits p views id v (grind (arith, nat_tests)) e

-- the parts of a conjunction
pub first_of : (a b : Bool) → a && b ≡ true → a ≡ true
first_of true b h = refl
first_of false b h = h

pub rest_of : (a b : Bool) → a && b ≡ true → b ≡ true
rest_of true b h = h
rest_of false b h = cc

pub all_views_fit : (p : Public) → state_fits p ≡ true → list_all (view_fits p) p.views ≡ true
all_views_fit p h = rest_of (list_all (schema_fits p) p.tables) (list_all (view_fits p) p.views) h

-- a view that fits declassifies made tags
pub view_is_made : (p : Public) (v : ViewDef) → view_fits p v ≡ true → are_made (length p.tags) v.declassifying ≡ true
view_is_made p v h =
    let names = length v.names == length v.select.items in
    let one = rest_of (query_fits p v.select) (list_all is_over_table v.select.sources && (names && label_fits p v.declassifying)) h in
    let two = rest_of (list_all is_over_table v.select.sources) (names && label_fits p v.declassifying) one in
    let three = rest_of names (label_fits p v.declassifying) two in
    first_of (are_made (length p.tags) v.declassifying) (is_rising v.declassifying) three

-- so does each view of a state that fits
pub declassifying_made : (p : Public) (id : ℕ) (v : ViewDef) → state_fits p ≡ true → slice_get p.views id ≡ Some v → are_made (length p.tags) v.declassifying ≡ true
declassifying_made p id v h e = view_is_made p v (one_fits p p.views id v (all_views_fit p h) e)
