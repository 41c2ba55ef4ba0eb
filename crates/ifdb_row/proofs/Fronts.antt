-- Keys by their first values: what stands before a key stands, by its first values, where that key does or before.
use Rattle.std.proofs.Common.{◌≡◌, Bool, true, false, List, [], ◌∷◌, ◌∙◌, refl, sym, ap, Ordering}
use Rattle.std.specs.declared.cmp.Ordering.TheVariants.{Less, Equal, Greater}
use Rattle.std.specs.Ordering.{is_gt, is_lt, ordering_then}
use Rattle.std.proofs.lemmas.Bool.{false≢true}
use Rattle.ifdb_value.specs.declared.value.Value.{Value}
use Rattle.ifdb_value.specs.Value.{value_cmp}
use Rattle.ifdb_value.proofs.ValueOrder.{value_exact, value_total}
use Rattle.ifdb_row.specs.Slots.{key_cmp}
use Rattle.ifdb_row.specs.Fronts.{front_cmp}

-- a key stands before some values as it does before those that begin with them
pub front_lt : (key values : List Value) → is_lt (key_cmp key values) ≡ is_lt (front_cmp key values)
front_lt [] [] = refl
front_lt (k ∷ key) [] = refl
front_lt [] (v ∷ values) = refl
front_lt (k ∷ key) (v ∷ values) = by (front_lt key values) (value_cmp k v) where
  by : is_lt (key_cmp key values) ≡ is_lt (front_cmp key values) → (o : Ordering) → is_lt (ordering_then o (key_cmp key values)) ≡ is_lt (ordering_then o (front_cmp key values))
  by more Less = refl
  by more Equal = more
  by more Greater = refl

-- so for a test of orders that lesser ones pass and greater ones don't
module _ (t : Ordering → Bool) (less : t Less ≡ true) (greater : t Greater ≡ false) where
  pub front_falls : (j k values : List Value) → is_gt (key_cmp j k) ≡ false → t (front_cmp k values) ≡ true → t (front_cmp j values) ≡ true
  front_falls j k [] h e = e
  front_falls [] k (v ∷ values) h e = less
  front_falls (x ∷ j) [] (v ∷ values) h e = absurd (false≢true (sym h))
  front_falls (x ∷ j) (y ∷ k) (v ∷ values) h e = by (front_falls j k values) (value_cmp x y) refl (value_cmp y v) refl h e where
    first : (o : Ordering) → value_cmp x v ≡ o → t (ordering_then o (front_cmp j values)) ≡ true → t (ordering_then (value_cmp x v) (front_cmp j values)) ≡ true
    first o is h = ap (λ w. t (ordering_then w (front_cmp j values))) is ∙ h

    by : (is_gt (key_cmp j k) ≡ false → t (front_cmp k values) ≡ true → t (front_cmp j values) ≡ true) → (o : Ordering) → value_cmp x y ≡ o → (u : Ordering) → value_cmp y v ≡ u
        → is_gt (ordering_then o (key_cmp j k)) ≡ false → t (ordering_then u (front_cmp k values)) ≡ true → t (ordering_then (value_cmp x v) (front_cmp j values)) ≡ true
    by more Less a Less b h e = first Less (value_total.trans x y v a b) less
    by more Less a Equal b h e = first Less (ap (value_cmp x) (sym (value_exact y v b)) ∙ a) less
    by more Less a Greater b h e = absurd (false≢true (sym greater ∙ e))
    by more Equal a Less b h e = first Less (value_total.congr x y v a ∙ b) less
    by more Equal a Equal b h e = first Equal (value_total.congr x y v a ∙ b) (more h e)
    by more Equal a Greater b h e = absurd (false≢true (sym greater ∙ e))
    by more Greater a u b h e = absurd (false≢true (sym h))
