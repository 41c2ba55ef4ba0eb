-- Parents bound by one foreign key after the other.
use Rattle.std.proofs.Common.{◌≡◌, ℕ, ◌<◌, Bool, true, false, cond, List, [], ◌∷◌, ◌++◌, ◌∙◌, length, get_or, drop, zero, suc, refl, sym, ap, arith, append-nil, Some, None, Option}
use Rattle.std.specs.Prelude.{option_to_list, slice_get}
use Rattle.std.proofs.lemmas.Grind.{common_steps}
use Rattle.ifdb_value.specs.declared.value.Value.{Value}
use Rattle.ifdb_row.specs.declared.slot.Slot.{Slot}
use Rattle.ifdb_bound.specs.declared.schema.Foreign.{Foreign}
use Rattle.ifdb_bound.specs.declared.request.BoundAssignment.{BoundAssignment}
use Rattle.ifdb_model.specs.Writes.{Scene, and_parent, and_slot, binding_keys, binds, bound_parent, bound_parents, is_assigned, rebound, rebound_parent, refs_behind}
use Rattle.ifdb_txn.specs.Rebinding.{kept_of, kept_or_bound, parent_where, with_front}

front_one : (front : List Slot) (s : Slot) (o : Option (List Slot)) → with_front front (and_slot (Some s) o) ≡ with_front (front ++ s ∷ []) o
front_one front s None = refl
front_one front s (Some more) = ap Some (grind (arith, common_steps))

drop_at : {X : Type 0} (xs : List X) (i : ℕ) (d : X) → i < length xs → drop i xs ≡ get_or xs i d ∷ drop (suc i) xs
drop_at [] i d lt = absurd (omega arith)
drop_at (x ∷ xs) zero d lt = refl
drop_at (x ∷ xs) (suc i) d lt = drop_at xs i d (omega arith)

-- ---- one foreign key, which may bind or not

front_where : (front : List Slot) (b : Bool) (o p : Option Slot) (rest : Option (List Slot)) → parent_where b o ≡ Some p → with_front front (and_parent b o rest) ≡ with_front (front ++ option_to_list p) rest
front_where front true None p rest h = cc
front_where front true (Some s) p rest h =
    let same : Some s ≡ p = cc in
    front_one front s rest ∙ ap (λ q. with_front (front ++ option_to_list q) rest) same
front_where front false o p rest h =
    let same : None ≡ p = cc in
    ap (λ l. with_front l rest) (sym (append-nil front)) ∙ ap (λ q. with_front (front ++ option_to_list q) rest) same

nothing_where : (front : List Slot) (b : Bool) (o : Option Slot) (rest : Option (List Slot)) → parent_where b o ≡ None → with_front front (and_parent b o rest) ≡ None
nothing_where front true None rest h = refl
nothing_where front true (Some s) rest h = cc
nothing_where front false o rest h = cc

-- ---- the parents of a new row

module _ (x : Scene) (values : List Value) where
  parents : List Foreign → Option (List Slot)
  parents fs = bound_parents x values (binding_keys values fs)

  parents_one : (f : Foreign) (fs : List Foreign) → parents (f ∷ fs) ≡ and_parent (binds values f) (bound_parent x values f) (parents fs)
  unfolding parents
  parents_one f fs = by (binds values f) where
    by : (b : Bool) → bound_parents x values (cond b (f ∷ binding_keys values fs) (binding_keys values fs)) ≡ and_parent b (bound_parent x values f) (bound_parents x values (binding_keys values fs))
    by true = refl
    by false = refl

  parents_at : (fs : List Foreign) (i : ℕ) (f : Foreign) → i < length fs → get_or fs i f ≡ f
      → bound_parents x values (binding_keys values (drop i fs)) ≡ and_parent (binds values f) (bound_parent x values f) (bound_parents x values (binding_keys values (drop (suc i) fs)))
  unfolding parents
  parents_at fs i f lt e =
      ap parents (drop_at fs i f lt) ∙ ap (λ g. parents (g ∷ drop (suc i) fs)) e ∙ parents_one f (drop (suc i) fs)

  pub with_parent : (front : List Slot) (fs : List Foreign) (i : ℕ) (f : Foreign) (p : Option Slot) → i < length fs → get_or fs i f ≡ f → parent_where (binds values f) (bound_parent x values f) ≡ Some p
      → with_front front (bound_parents x values (binding_keys values (drop i fs))) ≡ with_front (front ++ option_to_list p) (bound_parents x values (binding_keys values (drop (suc i) fs)))
  with_parent front fs i f p lt e h =
      ap (with_front front) (parents_at fs i f lt e)
      ∙ front_where front (binds values f) (bound_parent x values f) p (bound_parents x values (binding_keys values (drop (suc i) fs))) h

  pub without_parent : (front : List Slot) (fs : List Foreign) (i : ℕ) (f : Foreign) → i < length fs → get_or fs i f ≡ f → parent_where (binds values f) (bound_parent x values f) ≡ None
      → with_front front (bound_parents x values (binding_keys values (drop i fs))) ≡ None
  without_parent front fs i f lt e h =
      ap (with_front front) (parents_at fs i f lt e)
      ∙ nothing_where front (binds values f) (bound_parent x values f) (bound_parents x values (binding_keys values (drop (suc i) fs))) h

-- ---- the parents of a row that is updated

module _ (x : Scene) (sets : List BoundAssignment) (old values : List Value) where
  -- the first reference that is left is the foreign key's
  kept_first : (f : Foreign) (refs : List Slot) → rebound_parent x sets values f refs ≡ kept_or_bound x values f (kept_of sets f (slice_get refs 0))
  kept_first f [] = by (is_assigned sets f) where
    by : (b : Bool) → bound_parent x values f ≡ kept_or_bound x values f (cond b None None)
    by true = refl
    by false = refl
  kept_first f (s ∷ refs) = by (is_assigned sets f) where
    by : (b : Bool) → cond b (bound_parent x values f) (Some s) ≡ kept_or_bound x values f (cond b None (Some s))
    by true = refl
    by false = refl

  rebound_at : (fs : List Foreign) (i : ℕ) (f : Foreign) (refs : List Slot) → i < length fs → get_or fs i f ≡ f
      → rebound x sets old values (drop i fs) refs ≡ and_parent (binds values f) (kept_or_bound x values f (kept_of sets f (slice_get refs 0))) (rebound x sets old values (drop (suc i) fs) (refs_behind (binds old f) refs))
  rebound_at fs i f refs lt e =
      ap (λ d. rebound x sets old values d refs) (drop_at fs i f lt)
      ∙ ap (λ g. rebound x sets old values (g ∷ drop (suc i) fs) refs) e
      ∙ ap (λ o. and_parent (binds values f) o (rebound x sets old values (drop (suc i) fs) (refs_behind (binds old f) refs))) (kept_first f refs)

  pub rebound_with : (front : List Slot) (fs : List Foreign) (i : ℕ) (f : Foreign) (refs : List Slot) (p : Option Slot) → i < length fs → get_or fs i f ≡ f
      → parent_where (binds values f) (kept_or_bound x values f (kept_of sets f (slice_get refs 0))) ≡ Some p
      → with_front front (rebound x sets old values (drop i fs) refs) ≡ with_front (front ++ option_to_list p) (rebound x sets old values (drop (suc i) fs) (refs_behind (binds old f) refs))
  rebound_with front fs i f refs p lt e h =
      ap (with_front front) (rebound_at fs i f refs lt e)
      ∙ front_where front (binds values f) (kept_or_bound x values f (kept_of sets f (slice_get refs 0))) p (rebound x sets old values (drop (suc i) fs) (refs_behind (binds old f) refs)) h

  pub rebound_without : (front : List Slot) (fs : List Foreign) (i : ℕ) (f : Foreign) (refs : List Slot) → i < length fs → get_or fs i f ≡ f
      → parent_where (binds values f) (kept_or_bound x values f (kept_of sets f (slice_get refs 0))) ≡ None
      → with_front front (rebound x sets old values (drop i fs) refs) ≡ None
  rebound_without front fs i f refs lt e h =
      ap (with_front front) (rebound_at fs i f refs lt e)
      ∙ nothing_where front (binds values f) (kept_or_bound x values f (kept_of sets f (slice_get refs 0))) (rebound x sets old values (drop (suc i) fs) (refs_behind (binds old f) refs)) h
