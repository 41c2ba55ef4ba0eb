-- Entries that are put into a new map or set in order, where no key is there twice, are those of the old one.
use Rattle.std.proofs.Common.{◌≡◌, ℕ, false, List, [], ◌∷◌, ◌++◌, position, bytes_eq, is_some, sym, ap, ◌∙◌, subst, arith, append_assoc}
use Rattle.std.specs.Cmp.Lexicographic.{nat_list_eq_equiv}
use Rattle.std.specs.List.{AllByRecursion, IsDistinct}
use Rattle.std.specs.Map.{keys_of}
use Rattle.std.proofs.lemmas.Bool.Decides.{nat_tests}
use Rattle.std.proofs.lemmas.List.{map-append}
use Rattle.std.proofs.lemmas.Map.Keys.{IsDistinct-head, IsDistinct-tail}
use Rattle.indexmap.specs.IndexMap.{insert_entry}
use Rattle.indexmap.specs.IndexSet.{insert_key}
use Rattle.ifdb_catalog.specs.Kept.{Named}
use Rattle.ifdb_catalog.proofs.Lookups.{insert_entry-no_place, insert_key-no_place}

other_later : (x : List ℕ) (done : List (List ℕ)) (k : List ℕ) (rest : List (List ℕ)) → AllByRecursion (λ y. bytes_eq x y ≡ false) (done ++ k ∷ rest) → bytes_eq x k ≡ false
other_later x [] k rest h = h.0
other_later x (y ∷ done) k rest h = other_later x done k rest h.1

-- a key is not among those before it
not_before : (done : List (List ℕ)) (k : List ℕ) (rest : List (List ℕ)) → IsDistinct bytes_eq (done ++ k ∷ rest) → is_some (position (bytes_eq k) done) ≡ false
not_before [] k rest h = grind (arith, nat_tests)
not_before (x ∷ done) k rest h =
    let other = other_later x done k rest (IsDistinct-head bytes_eq x (done ++ k ∷ rest) h) in
    grind (arith, nat_tests, other, nat_list_eq_equiv.symm x k, not_before done k rest (IsDistinct-tail bytes_eq x (done ++ k ∷ rest) h))

-- the next key of a set goes from those that are left to the copies
pub next_key : (keys done left : List (List ℕ)) (k : List ℕ) (rest : List (List ℕ)) → IsDistinct bytes_eq keys → done ++ left ≡ keys → left ≡ k ∷ rest
    → (more : List (List ℕ)) (copy : List ℕ) → more ≡ insert_key bytes_eq done copy → copy ≡ k → more ++ rest ≡ keys
next_key keys done left k rest distinct all first more copy put same =
    let whole = ap (λ ks. done ++ ks) (sym first) ∙ all in
    let fresh = not_before done k rest (subst (λ ks. IsDistinct bytes_eq ks) (sym whole) distinct) in
    ap (λ ks. ks ++ rest) (put ∙ ap (insert_key bytes_eq done) same ∙ insert_key-no_place done k fresh) ∙ append_assoc done (k ∷ []) rest ∙ whole

-- and the next entry of a map
pub next_entry : {X : Type 0} (es done left : List (Named X)) (k : List ℕ) (v : X) (rest : List (Named X)) → IsDistinct bytes_eq (keys_of es) → done ++ left ≡ es
    → left ≡ (k, v) ∷ rest → (more : List (Named X)) (name : List ℕ) (copy : X) → more ≡ insert_entry bytes_eq done name copy → name ≡ k → copy ≡ v → more ++ rest ≡ es
next_entry {X} es done left k v rest distinct all first more name copy put same_name same =
    let whole = ap (λ xs. done ++ xs) (sym first) ∙ all in
    let split = ap keys_of (sym whole) ∙ map-append (λ (x : Named X). x.0) done ((k, v) ∷ rest) in
    let fresh = not_before (keys_of done) k (keys_of rest) (subst (λ ks. IsDistinct bytes_eq ks) split distinct) in
    let next = put ∙ (λ j. insert_entry bytes_eq done (same_name j) (same j)) ∙ insert_entry-no_place done k v fresh in
    ap (λ xs. xs ++ rest) next ∙ append_assoc done ((k, v) ∷ []) rest ∙ whole
