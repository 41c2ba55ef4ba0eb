-- Writes merged from the front.
use Rattle.std.proofs.Common.{◌≡◌, ℕ, zero, suc, get_or, ◌<◌, ◌↔◌, Bor, Bool, true, false, List, [], ◌∷◌, ◌++◌, ◌∙◌, take, drop, length, subst, refl, sym, ap, arith, Some, None, Option}
use Rattle.std.specs.Prelude.{not, option_to_list, slice_get, slice_index_or, IfSome}
use Rattle.std.specs.Option.{option_copied, IsSome}
use Rattle.std.specs.Ordering.{is_lt, is_eq}
use Rattle.std.specs.declared.cmp.Ordering.{Ordering}
use Rattle.std.specs.declared.cmp.Ordering.TheVariants as order
use Rattle.std.specs.List.{list_all}
use Rattle.std.proofs.lemmas.Bool.Decides.{nat_tests}
use Rattle.ifdb_value.proofs.Lists.{all_wider}
use Rattle.ifdb_row.specs.declared.slot.Slot.{Slot}
use Rattle.ifdb_row.specs.declared.write.Write.{Write}
use Rattle.ifdb_row.specs.Slots.{is_same_slot, slot_lt}
use Rattle.ifdb_row.specs.Writes.{are_rising, merged, put}
use Rattle.ifdb_row.specs.Merging.{IsFirstTaken, fronts_cmp}
use Rattle.ifdb_row.specs.Reach.{reach}
use Rattle.ifdb_row.proofs.SlotOrder.{slot_same, slot_above, slot_lt_trans, slot_lt_itself}
use Rattle.ifdb_row.proofs.Children.{same_back}
use Rattle.ifdb_row.proofs.Rising.{lt_not_same, lt_not_back, lt_from}

-- a write before all later ones stays first
pub merged_front : (o : Write) (own ws : List Write) → list_all (λ (w : Write). slot_lt o.slot w.slot) ws ≡ true → merged (o ∷ own) ws ≡ o ∷ merged own ws
merged_front o own [] h = refl
merged_front o own (w ∷ ws) h =
    let lt : slot_lt o.slot w.slot ≡ true = grind (arith, nat_tests) in
    let out : put w (o ∷ own) ≡ o ∷ put w own = grind (arith, nat_tests, lt_not_same o.slot w.slot lt, lt_not_back o.slot w.slot lt) in
    ap (λ vs. merged vs ws) out ∙ merged_front o (put w own) ws (grind (arith, nat_tests))

-- what stands before a slot stands before those that don't
lt_through : (p s q : Slot) → slot_lt p s ≡ true → slot_lt q s ≡ false → slot_lt p q ≡ true
lt_through p s q h k = by (is_same_slot s q) refl where
  by : (b : Bool) → is_same_slot s q ≡ b → slot_lt p q ≡ true
  by true e = ap (slot_lt p) (sym (slot_same s q e)) ∙ h
  by false e = slot_lt_trans p s q h (lt_from s q e k)

-- writes before a slot stay where no later one stands before it
pub merged_past : (s : Slot) (own ws : List Write) → list_all (λ (w : Write). not (slot_lt w.slot s)) ws ≡ true
    → merged own ws ≡ take (reach (λ (w : Write). slot_lt w.slot s) own) own ++ merged (drop (reach (λ (w : Write). slot_lt w.slot s) own) own) ws
merged_past s [] ws h = refl
merged_past s (o ∷ own) ws h = by (merged_past s own ws h) (slot_lt o.slot s) refl where
  by : merged own ws ≡ take (reach (λ (w : Write). slot_lt w.slot s) own) own ++ merged (drop (reach (λ (w : Write). slot_lt w.slot s) own) own) ws
      → (b : Bool) → slot_lt o.slot s ≡ b → merged (o ∷ own) ws ≡ take (reach (λ (w : Write). slot_lt w.slot s) (o ∷ own)) (o ∷ own) ++ merged (drop (reach (λ (w : Write). slot_lt w.slot s) (o ∷ own)) (o ∷ own)) ws
  by more true e =
      let up = all_wider (λ (w : Write). not (slot_lt w.slot s)) (λ (w : Write). slot_lt o.slot w.slot) ws (λ w k. lt_through o.slot s w.slot e (grind (arith, nat_tests))) h in
      rw e (merged_front o own ws up ∙ ap (λ l. o ∷ l) more)
  by more false e = rw e refl

-- none of rising writes stands before the first
pub none_before : (w : Write) (ws : List Write) → are_rising (w ∷ ws) ≡ true → list_all (λ (v : Write). not (slot_lt v.slot w.slot)) (w ∷ ws) ≡ true
none_before w ws h =
    let behind = all_wider (λ (v : Write). slot_lt w.slot v.slot) (λ (v : Write). not (slot_lt v.slot w.slot)) ws (λ v k. ap not (lt_not_back w.slot v.slot k)) (grind (arith, nat_tests)) in
    grind (arith, nat_tests, slot_lt_itself w.slot)

pub none_before_first : (ws : List Write) (w : Write) → w ≡ get_or ws 0 w → are_rising ws ≡ true → list_all (λ (v : Write). not (slot_lt v.slot w.slot)) ws ≡ true
none_before_first [] w e h = refl
none_before_first (v ∷ ws) w e h =
    let same : w ≡ v = e in
    ap (λ (x : Write). list_all (λ (u : Write). not (slot_lt u.slot x.slot)) (v ∷ ws)) same ∙ none_before v ws h

-- what is left of rising writes rises
pub rising_drop : (n : ℕ) (ws : List Write) → are_rising ws ≡ true → are_rising (drop n ws) ≡ true
rising_drop zero ws h = h
rising_drop (suc n) [] h = refl
rising_drop (suc n) (w ∷ ws) h = rising_drop n ws (grind (arith, nat_tests))

-- ---- one write taken

pub front_found : (xs : List Write) (n : ℕ) (o : Option (Bor Write)) → n ≡ length xs → (IsSome o ↔ (0 < n)) → IfSome o (λ x. x.now ≡ slice_index_or xs 0 x.now) → option_copied o ≡ slice_get xs 0
front_found [] n None l h k = refl
front_found (x ∷ xs) n None l h k = let e = h.1 (omega (arith, l)) in cc
front_found [] n (Some b) l h k = let e = h.0 refl in absurd (omega (arith, l, e))
front_found (x ∷ xs) n (Some b) l h k = ap Some k

pub fronts_given : (o p q r : Option Write) (a b : Ordering) → o ≡ q → p ≡ r → a ≡ fronts_cmp o p → a ≡ b → fronts_cmp q r ≡ b
fronts_given o p q r a b e f g h = sym (ap (λ x. fronts_cmp x p) e ∙ ap (fronts_cmp q) f) ∙ (sym g ∙ h)

-- the first of the writes
own_first : (v : Write) (vs later : List Write) → fronts_cmp (Some v) (slice_get later 0) ≡ order.Less → are_rising (v ∷ vs) ≡ true → are_rising later ≡ true
    → IsFirstTaken (v ∷ vs) later (Some v) vs later
own_first v vs [] e h k = record { split = refl; ends = λ i. cc; rising = grind (arith, nat_tests); later_rising = grind (arith, nat_tests); fewer = omega arith }
own_first v vs (w ∷ ws) e h k =
    let lt : slot_lt v.slot w.slot ≡ true = ap is_lt e in
    let more = all_wider (λ (x : Write). slot_lt w.slot x.slot) (λ (x : Write). slot_lt v.slot x.slot) ws (λ x i. slot_lt_trans v.slot w.slot x.slot lt i) (grind (arith, nat_tests)) in
    record { split = merged_front v vs (w ∷ ws) (grind (arith, nat_tests)); ends = λ i. cc; rising = grind (arith, nat_tests); later_rising = grind (arith, nat_tests); fewer = omega arith }

-- the first of the later ones
later_first : (w : Write) (own ws : List Write) → fronts_cmp (slice_get own 0) (Some w) ≡ order.Greater → are_rising own ≡ true → are_rising (w ∷ ws) ≡ true
    → IsFirstTaken own (w ∷ ws) (Some w) own ws
later_first w [] ws e h k = record { split = merged_front w [] ws (grind (arith, nat_tests)); ends = λ i. cc; rising = grind (arith, nat_tests); later_rising = grind (arith, nat_tests); fewer = omega arith }
later_first w (v ∷ vs) ws e h k =
    let lt = slot_above v.slot w.slot (ap is_eq e) (ap is_lt e) in
    let apart : is_same_slot w.slot v.slot ≡ false = same_back w.slot v.slot ∙ lt_not_same w.slot v.slot lt in
    let in_front : put w (v ∷ vs) ≡ w ∷ v ∷ vs = grind (arith, nat_tests) in
    record {
      split = ap (λ l. merged l ws) in_front ∙ merged_front w (v ∷ vs) ws (grind (arith, nat_tests));
      ends = λ i. cc;
      rising = grind (arith, nat_tests);
      later_rising = grind (arith, nat_tests);
      fewer = omega arith;
    }

-- both, of one slot
both_first : (v w : Write) (vs ws : List Write) → fronts_cmp (Some v) (Some w) ≡ order.Equal → are_rising (v ∷ vs) ≡ true → are_rising (w ∷ ws) ≡ true
    → IsFirstTaken (v ∷ vs) (w ∷ ws) (Some w) vs ws
both_first v w vs ws e h k =
    let same : is_same_slot w.slot v.slot ≡ true = same_back w.slot v.slot ∙ ap is_eq e in
    let over : put w (v ∷ vs) ≡ w ∷ vs = grind (arith, nat_tests) in
    record {
      split = ap (λ l. merged l ws) over ∙ merged_front w vs ws (grind (arith, nat_tests));
      ends = λ i. cc;
      rising = grind (arith, nat_tests);
      later_rising = grind (arith, nat_tests);
      fewer = omega arith;
    }

-- what is popped is the first, if there is one
popped : {X : Type 0} (x : X) (xs left : List X) (o : Option X) → x ∷ xs ≡ option_to_list o ++ left → left ≡ xs → o ≡ Some x
popped x xs left None e d = let n = ap length (e ∙ d) in absurd (omega (arith, n))
popped x xs left (Some y) e d = cc

pub less_taken : (own later left : List Write) (o : Option Write) → fronts_cmp (slice_get own 0) (slice_get later 0) ≡ order.Less → own ≡ option_to_list o ++ left → left ≡ drop 1 own
    → are_rising own ≡ true → are_rising later ≡ true → IsFirstTaken own later o left later
less_taken [] [] left o e p d h k = cc
less_taken [] (w ∷ ws) left o e p d h k = cc
less_taken (v ∷ vs) later left o e p d h k =
    subst (λ x. IsFirstTaken (v ∷ vs) later x left later) (sym (popped v vs left o p d)) (subst (λ l. IsFirstTaken (v ∷ vs) later (Some v) l later) (sym d) (own_first v vs later e h k))

pub greater_taken : (own later left : List Write) (o : Option Write) → fronts_cmp (slice_get own 0) (slice_get later 0) ≡ order.Greater → later ≡ option_to_list o ++ left → left ≡ drop 1 later
    → are_rising own ≡ true → are_rising later ≡ true → IsFirstTaken own later o own left
greater_taken [] [] left o e p d h k = cc
greater_taken (v ∷ vs) [] left o e p d h k = cc
greater_taken own (w ∷ ws) left o e p d h k =
    subst (λ x. IsFirstTaken own (w ∷ ws) x own left) (sym (popped w ws left o p d)) (subst (λ l. IsFirstTaken own (w ∷ ws) (Some w) own l) (sym d) (later_first w own ws e h k))

pub equal_taken : (own later own_left left : List Write) (o : Option Write) → fronts_cmp (slice_get own 0) (slice_get later 0) ≡ order.Equal → own_left ≡ drop 1 own
    → later ≡ option_to_list o ++ left → left ≡ drop 1 later → are_rising own ≡ true → are_rising later ≡ true → IsFirstTaken own later o own_left left
equal_taken [] [] own_left left None e c p d h k =
    subst (λ l. IsFirstTaken [] [] None l left) (sym c) (subst (λ l. IsFirstTaken [] [] None [] l) (sym d) (record { split = refl; ends = λ i. refl; rising = refl; later_rising = refl; fewer = omega arith }))
equal_taken [] [] own_left left (Some x) e c p d h k = cc
equal_taken [] (w ∷ ws) own_left left o e c p d h k = cc
equal_taken (v ∷ vs) [] own_left left o e c p d h k = cc
equal_taken (v ∷ vs) (w ∷ ws) own_left left o e c p d h k =
    subst (λ x. IsFirstTaken (v ∷ vs) (w ∷ ws) x own_left left) (sym (popped w ws left o p d))
    (subst (λ l. IsFirstTaken (v ∷ vs) (w ∷ ws) (Some w) l left) (sym c) (subst (λ l. IsFirstTaken (v ∷ vs) (w ∷ ws) (Some w) vs l) (sym d) (both_first v w vs ws e h k)))
