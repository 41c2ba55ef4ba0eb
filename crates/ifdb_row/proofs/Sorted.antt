-- Lists that rise by slots: where a slot stands in one, and what an item put there leaves.
use Rattle.std.proofs.Common.{◌≡◌, ℕ, ◌<◌, ◌≤◌, Bool, true, false, List, [], ◌∷◌, ◌∙◌, length, get_or, set, refl, sym, ap, arith, Some, None}
use Rattle.std.specs.Prelude.{not, ◌&&◌, insert, remove, if◌then◌else◌}
use Rattle.std.specs.List.{list_all, list_any}
use Rattle.std.proofs.lemmas.Bool.{false≢true}
use Rattle.std.proofs.lemmas.Bool.Decides.{nat_tests}
use Rattle.ifdb_value.proofs.Lists.{all_wider}
use Rattle.ifdb_row.specs.declared.slot.Slot.{Slot}
use Rattle.ifdb_row.specs.declared.row.Row.{Row}
use Rattle.ifdb_row.specs.declared.write.Write.{Write}
use Rattle.ifdb_row.specs.Slots.{is_same_slot, slot_lt}
use Rattle.ifdb_row.specs.Writes.{is_fitting, are_fitting, are_rising, merged, put}
use Rattle.ifdb_row.specs.Content.{place, rising}
use Rattle.ifdb_row.specs.Reach.{reach, is_parted}
use Rattle.ifdb_row.proofs.SlotOrder.{slot_same, slot_lt_trans, slot_lt_itself}
use Rattle.ifdb_row.proofs.Rising.{lt_not_same, lt_not_back, lt_from}
use Rattle.ifdb_row.proofs.LiveLaws.{put_all, merged_all}

module _ {X : Type 0} (slot : X → Slot) where
  -- the items rise by their slots
  abbrev pub sorted : List X → Bool
  sorted [] = true
  sorted (x ∷ xs) = list_all (λ y. slot_lt (slot x) (slot y)) xs && sorted xs

  -- each stands behind a slot
  abbrev pub over : Slot → List X → Bool
  over s xs = list_all (λ x. slot_lt s (slot x)) xs

  -- some item is of the slot
  abbrev pub taken : Slot → List X → Bool
  taken s xs = list_any (λ x. is_same_slot s (slot x)) xs

  -- where the slot stands, or would stand
  abbrev pub place_of : Slot → List X → ℕ
  place_of s xs = reach (λ x. slot_lt (slot x) s) xs

  -- the item in its place, in place of one of its slot
  abbrev pub put_in : Slot → X → List X → List X
  put_in s x [] = x ∷ []
  put_in s x (y ∷ ys) = if is_same_slot s (slot y) then x ∷ ys else (if slot_lt s (slot y) then x ∷ y ∷ ys else y ∷ put_in s x ys)

  pub parted_sorted : (s : Slot) (xs : List X) → sorted xs ≡ true → is_parted (λ x. slot_lt (slot x) s) xs ≡ true
  parted_sorted s [] h = refl
  parted_sorted s (x ∷ xs) h = by (parted_sorted s xs) (slot_lt (slot x) s) refl where
    none : slot_lt (slot x) s ≡ false → list_all (λ y. not (slot_lt (slot y) s)) xs ≡ true
    none e = all_wider (λ y. slot_lt (slot x) (slot y)) (λ y. not (slot_lt (slot y) s)) xs (λ y k. grind (arith, nat_tests, slot_lt_trans (slot x) (slot y) s)) (grind (arith, nat_tests))

    by : (sorted xs ≡ true → is_parted (λ y. slot_lt (slot y) s) xs ≡ true) → (b : Bool) → slot_lt (slot x) s ≡ b → is_parted (λ y. slot_lt (slot y) s) (x ∷ xs) ≡ true
    by more true e = grind (arith, nat_tests, more)
    by more false e = grind (arith, nat_tests, none e)

  over_more : (s q : Slot) (xs : List X) → slot_lt s q ≡ true → over q xs ≡ true → over s xs ≡ true
  over_more s q xs h k = all_wider (λ x. slot_lt q (slot x)) (λ x. slot_lt s (slot x)) xs (λ x e. slot_lt_trans s q (slot x) h e) k

  free_over : (s : Slot) (xs : List X) → over s xs ≡ true → taken s xs ≡ false
  free_over s [] h = refl
  free_over s (x ∷ xs) h = grind (arith, nat_tests, free_over s xs, apart) where
    apart : slot_lt s (slot x) ≡ true → is_same_slot s (slot x) ≡ false
    apart k = by (is_same_slot s (slot x)) refl where
      by : (b : Bool) → is_same_slot s (slot x) ≡ b → is_same_slot s (slot x) ≡ false
      by false e = e
      by true e = absurd (false≢true (sym (slot_lt_itself s) ∙ (ap (slot_lt s) (slot_same s (slot x) e) ∙ k)))

  before_not : (p q : Slot) → slot_lt p q ≡ true → (is_same_slot q p ≡ false) × (slot_lt q p ≡ false)
  before_not p q h = (lt_not_same p q h, lt_not_back p q h)

  module _ (s : Slot) where
    -- whether an item is of the slot is told by the one at its place
    pub taken_at : (xs : List X) (d : X) → sorted xs ≡ true → place_of s xs < length xs → is_same_slot s (slot (get_or xs (place_of s xs) d)) ≡ taken s xs
    taken_at [] d h lt = absurd (omega arith)
    taken_at (x ∷ xs) d h lt = by (taken_at xs d) (slot_lt (slot x) s) refl where
      by : (sorted xs ≡ true → place_of s xs < length xs → is_same_slot s (slot (get_or xs (place_of s xs) d)) ≡ taken s xs) → (b : Bool) → slot_lt (slot x) s ≡ b
          → is_same_slot s (slot (get_or (x ∷ xs) (place_of s (x ∷ xs)) d)) ≡ taken s (x ∷ xs)
      by more true e = let no = before_not (slot x) s e in grind (arith, nat_tests, more)
      by more false e = grind (arith, nat_tests, behind (is_same_slot s (slot x)) refl) where
        behind : (b : Bool) → is_same_slot s (slot x) ≡ b → is_same_slot s (slot x) ≡ taken s (x ∷ xs)
        behind true k = grind (arith, nat_tests)
        behind false k =
            let up : over s xs ≡ true = over_more s (slot x) xs (lt_from s (slot x) k e) (grind (arith, nat_tests)) in
            grind (arith, nat_tests, free_over s xs up)

    -- the same of an item that was read
    pub taken_is : (xs : List X) (i : ℕ) (x : X) → sorted xs ≡ true → i ≡ place_of s xs → i < length xs → x ≡ get_or xs i x → is_same_slot s (slot x) ≡ taken s xs
    taken_is xs i x h e lt is =
        let at : x ≡ get_or xs (place_of s xs) x = is ∙ ap (λ k. get_or xs k x) e in
        ap (λ y. is_same_slot s (slot y)) at ∙ taken_at xs x h (grind (arith, e, lt))

    pub all_under : (xs : List X) → length xs ≤ place_of s xs → taken s xs ≡ false
    all_under [] h = refl
    all_under (x ∷ xs) h = grind (arith, nat_tests, all_under xs, lt_not_same (slot x) s)

    pub taken_within : (xs : List X) → sorted xs ≡ true → taken s xs ≡ true → place_of s xs < length xs
    taken_within [] h e = absurd (false≢true e)
    taken_within (x ∷ xs) h e = grind (arith, nat_tests, taken_within xs, lt_not_same (slot x) s)

    pub put_there : (xs : List X) (y : X) → sorted xs ≡ true → taken s xs ≡ true → put_in s y xs ≡ set xs (place_of s xs) y
    put_there [] y h e = absurd (false≢true e)
    put_there (x ∷ xs) y h e = by (put_there xs y) (slot_lt (slot x) s) refl where
      by : (sorted xs ≡ true → taken s xs ≡ true → put_in s y xs ≡ set xs (place_of s xs) y) → (b : Bool) → slot_lt (slot x) s ≡ b → put_in s y (x ∷ xs) ≡ set (x ∷ xs) (place_of s (x ∷ xs)) y
      by more true k = grind (arith, nat_tests, more, before_not (slot x) s k)
      by more false k = same (is_same_slot s (slot x)) refl where
        same : (b : Bool) → is_same_slot s (slot x) ≡ b → put_in s y (x ∷ xs) ≡ set (x ∷ xs) (place_of s (x ∷ xs)) y
        same true u = grind (arith, nat_tests)
        same false u = absurd (false≢true (sym (free_over s (x ∷ xs) (grind (arith, nat_tests, up, lt))) ∙ e)) where
          lt : slot_lt s (slot x) ≡ true
          lt = lt_from s (slot x) u k

          up : over s xs ≡ true
          up = over_more s (slot x) xs lt (grind (arith, nat_tests))

    pub put_new : (xs : List X) (y : X) → taken s xs ≡ false → put_in s y xs ≡ insert xs (place_of s xs) y
    put_new [] y e = refl
    put_new (x ∷ xs) y e = by (put_new xs y) (slot_lt (slot x) s) refl where
      by : (taken s xs ≡ false → put_in s y xs ≡ insert xs (place_of s xs) y) → (b : Bool) → slot_lt (slot x) s ≡ b → put_in s y (x ∷ xs) ≡ insert (x ∷ xs) (place_of s (x ∷ xs)) y
      by more true k = grind (arith, nat_tests, more, before_not (slot x) s k)
      by more false k = grind (arith, nat_tests, lt_from s (slot x))

-- ---- rows

pub rising_sorted : (rows : List Row) → rising rows ≡ sorted (λ (r : Row). r.slot) rows
rising_sorted [] = refl
rising_sorted (r ∷ rows) = ap (λ b. list_all (λ (x : Row). slot_lt r.slot x.slot) rows && b) (rising_sorted rows)

pub place_put : (s : Slot) (x : Row) (rows : List Row) → place s (Some x) rows ≡ put_in (λ (r : Row). r.slot) s x rows
place_put s x [] = refl
place_put s x (r ∷ rows) = grind (arith, nat_tests, place_put s x rows)

pub drop_there : (s : Slot) (rows : List Row) → rising rows ≡ true → taken (λ (r : Row). r.slot) s rows ≡ true → place s None rows ≡ remove rows (place_of (λ (r : Row). r.slot) s rows)
drop_there s [] h e = absurd (false≢true e)
drop_there s (r ∷ rows) h e = by (drop_there s rows) (slot_lt r.slot s) refl where
  by : (rising rows ≡ true → taken (λ (r : Row). r.slot) s rows ≡ true → place s None rows ≡ remove rows (place_of (λ (r : Row). r.slot) s rows)) → (b : Bool) → slot_lt r.slot s ≡ b
      → place s None (r ∷ rows) ≡ remove (r ∷ rows) (place_of (λ (r : Row). r.slot) s (r ∷ rows))
  by more true k = grind (arith, nat_tests, more, before_not (λ (r : Row). r.slot) r.slot s k)
  by more false k = same (is_same_slot s r.slot) refl where
    same : (b : Bool) → is_same_slot s r.slot ≡ b → place s None (r ∷ rows) ≡ remove (r ∷ rows) (place_of (λ (r : Row). r.slot) s (r ∷ rows))
    same true u = grind (arith, nat_tests)
    same false u = absurd (false≢true (sym (free_over (λ (r : Row). r.slot) s (r ∷ rows) (grind (arith, nat_tests, up, lt))) ∙ e)) where
      lt : slot_lt s r.slot ≡ true
      lt = lt_from s r.slot u k

      up : over (λ (r : Row). r.slot) s rows ≡ true
      up = over_more (λ (r : Row). r.slot) s r.slot rows lt (grind (arith, nat_tests))

pub drop_none : (s : Slot) (rows : List Row) → taken (λ (r : Row). r.slot) s rows ≡ false → place s None rows ≡ rows
drop_none s [] e = refl
drop_none s (r ∷ rows) e = grind (arith, nat_tests, drop_none s rows)

-- ---- writes

pub are_rising_sorted : (ws : List Write) → are_rising ws ≡ sorted (λ (w : Write). w.slot) ws
are_rising_sorted [] = refl
are_rising_sorted (w ∷ ws) = ap (λ b. list_all (λ (v : Write). slot_lt w.slot v.slot) ws && b) (are_rising_sorted ws)

pub put_is : (w : Write) (ws : List Write) → put w ws ≡ put_in (λ (v : Write). v.slot) w.slot w ws
put_is w [] = refl
put_is w (v ∷ ws) = grind (arith, nat_tests, put_is w ws)

pub put_fits : (w : Write) (ws : List Write) → is_fitting w.slot w.row ≡ true → are_fitting ws ≡ true → are_fitting (put w ws) ≡ true
put_fits w ws f h = put_all (λ (v : Write). is_fitting v.slot v.row) w ws f h

pub put_rises : (w : Write) (ws : List Write) → are_rising ws ≡ true → are_rising (put w ws) ≡ true
put_rises w [] h = refl
put_rises w (v ∷ ws) h = by (put_rises w ws) (is_same_slot w.slot v.slot) refl (slot_lt w.slot v.slot) refl where
  above : Slot → List Write → Bool
  above s us = list_all (λ (u : Write). slot_lt s u.slot) us

  by : (are_rising ws ≡ true → are_rising (put w ws) ≡ true) → (a : Bool) → is_same_slot w.slot v.slot ≡ a → (b : Bool) → slot_lt w.slot v.slot ≡ b → are_rising (put w (v ∷ ws)) ≡ true
  by more true e b k =
      let up : list_all (λ (u : Write). slot_lt w.slot u.slot) ws ≡ true = ap (λ (x : Slot). list_all (λ (u : Write). slot_lt x u.slot) ws) (slot_same w.slot v.slot e) ∙ grind (arith, nat_tests) in
      grind (arith, nat_tests)
  by more false e true k =
      let up : list_all (λ (u : Write). slot_lt w.slot u.slot) ws ≡ true = all_wider (λ (u : Write). slot_lt v.slot u.slot) (λ (u : Write). slot_lt w.slot u.slot) ws (λ u i. slot_lt_trans w.slot v.slot u.slot k i) (grind (arith, nat_tests)) in
      grind (arith, nat_tests)
  by more false e false k =
      let lt : slot_lt v.slot w.slot ≡ true = back (slot_lt v.slot w.slot) refl in
      let up : list_all (λ (u : Write). slot_lt v.slot u.slot) (put w ws) ≡ true = put_all (λ (u : Write). slot_lt v.slot u.slot) w ws lt (grind (arith, nat_tests)) in
      grind (arith, nat_tests, more)
    where
      back : (c : Bool) → slot_lt v.slot w.slot ≡ c → slot_lt v.slot w.slot ≡ true
      back true u = u
      back false u = absurd (false≢true (sym k ∙ lt_from w.slot v.slot e u))

pub merged_fits : (own ws : List Write) → are_fitting own ≡ true → are_fitting ws ≡ true → are_fitting (merged own ws) ≡ true
merged_fits own ws f g = merged_all (λ (v : Write). is_fitting v.slot v.row) own ws f g

pub merged_rises : (own ws : List Write) → are_rising own ≡ true → are_rising (merged own ws) ≡ true
merged_rises own [] h = h
merged_rises own (w ∷ ws) h = merged_rises (put w own) ws (put_rises w own h)
