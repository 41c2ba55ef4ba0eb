-- Rows in two parts with writes in two parts.
use Rattle.std.proofs.Common.{◌≡◌, ℕ, Bool, true, false, List, [], ◌∷◌, ◌++◌, ◌<◌, ◌+◌, length, get_or, take, refl, sym, ap, ◌∙◌, arith, Some, None, Option}
use Rattle.std.specs.Prelude.{not, option_to_list}
use Rattle.std.specs.List.{list_all}
use Rattle.std.proofs.lemmas.Bool.{false≢true}
use Rattle.std.proofs.lemmas.Bool.Decides.{nat_tests}
use Rattle.std.proofs.lemmas.List.{append_assoc, append-nil, take_more}
use Rattle.ifdb_row.specs.declared.slot.Slot.{Slot}
use Rattle.ifdb_row.specs.declared.row.Row.{Row}
use Rattle.ifdb_row.specs.declared.write.Write.{Write}
use Rattle.ifdb_row.specs.Slots.{is_same_slot, slot_lt}
use Rattle.ifdb_row.specs.Writes.{is_fitting, are_fitting}
use Rattle.ifdb_row.specs.Content.{place, after, rising}
use Rattle.ifdb_row.proofs.SlotOrder.{slot_same, slot_lt_itself}
use Rattle.ifdb_value.proofs.Lists.{all_at, all_wider}
use Rattle.ifdb_row.proofs.ContentLaws.{above, all-after, rising_place}
use Rattle.ifdb_row.proofs.Rising.{lt_not_same, lt_not_back}

-- the rows stand before the slot
abbrev pub below : List Row → Slot → Bool
below rows s = list_all (λ (r : Row). slot_lt r.slot s) rows

place_first : (s : Slot) (o : Option Row) (rows : List Row) → above s rows ≡ true → place s o rows ≡ option_to_list o ++ rows
place_first s o [] h = sym (append-nil (option_to_list o))
place_first s o (r ∷ rows) h =
    let lt : slot_lt s r.slot ≡ true = grind (arith, nat_tests) in
    let ne : is_same_slot s r.slot ≡ true → ⊥ = λ e. false≢true (sym (slot_lt_itself s) ∙ ap (slot_lt s) (slot_same s r.slot e) ∙ lt) in
    grind (arith, nat_tests, ne, lt)

place_left : (s : Slot) (o : Option Row) (xs ys : List Row) → above s ys ≡ true → place s o (xs ++ ys) ≡ place s o xs ++ ys
place_left s o [] ys h = place_first s o ys h
place_left s o (x ∷ xs) ys h = grind (arith, nat_tests, place_left s o xs ys h, append_assoc (option_to_list o) xs ys, append_assoc (option_to_list o) (x ∷ xs) ys)

place_right : (s : Slot) (o : Option Row) (xs ys : List Row) → below xs s ≡ true → place s o (xs ++ ys) ≡ xs ++ place s o ys
place_right s o [] ys h = refl
place_right s o (x ∷ xs) ys h = grind (arith, nat_tests, place_right s o xs ys, lt_not_same x.slot s, lt_not_back x.slot s)

after_left : (xs ys : List Row) (us : List Write) → list_all (λ (w : Write). above w.slot ys) us ≡ true → after (xs ++ ys) us ≡ after xs us ++ ys
after_left xs ys [] h = refl
after_left xs ys (w ∷ us) h =
    let parts : (above w.slot ys ≡ true) × (list_all (λ (w : Write). above w.slot ys) us ≡ true) = grind (arith, nat_tests) in
    ap (λ x. after x us) (place_left w.slot w.row xs ys parts.0) ∙ after_left (place w.slot w.row xs) ys us parts.1

pub after_right : (xs ys : List Row) (vs : List Write) → list_all (λ (w : Write). below xs w.slot) vs ≡ true → after (xs ++ ys) vs ≡ xs ++ after ys vs
after_right xs ys [] h = refl
after_right xs ys (w ∷ vs) h =
    let parts : (below xs w.slot ≡ true) × (list_all (λ (w : Write). below xs w.slot) vs ≡ true) = grind (arith, nat_tests) in
    ap (λ x. after x vs) (place_right w.slot w.row xs ys parts.0) ∙ after_right xs (place w.slot w.row ys) vs parts.1

pub after-append : (rows : List Row) (us vs : List Write) → after rows (us ++ vs) ≡ after (after rows us) vs
after-append rows [] vs = refl
after-append rows (u ∷ us) vs = after-append (place u.slot u.row rows) us vs

-- one write more
pub after_next : (rows : List Row) (ws : List Write) (i : ℕ) (w : Write) → i < length ws → w ≡ get_or ws i w → after rows (take (i + 1) ws) ≡ place w.slot w.row (after rows (take i ws))
after_next rows ws i w lt e =
    ap (after rows) (take_more ws i w lt ∙ ap (λ x. take i ws ++ x ∷ []) (sym e)) ∙ after-append rows (take i ws) (w ∷ [])

pub fitting_next : (rows : List Row) (ws : List Write) (i : ℕ) (w : Write) → i < length ws → w ≡ get_or ws i w → are_fitting ws ≡ true → rising rows ≡ true → rising (place w.slot w.row rows) ≡ true
fitting_next rows ws i w lt e f h =
    rising_place w.slot w.row rows (ap (λ (x : Write). is_fitting x.slot x.row) e ∙ all_at (λ (x : Write). is_fitting x.slot x.row) ws i w f lt) h

-- slots that pass stand before those that don't
abbrev pub Cuts : (Slot → Bool) → Type 0
Cuts t = (p q : Slot) → t p ≡ true → t q ≡ false → slot_lt p q ≡ true

abbrev pub rows_in : (Slot → Bool) → List Row → Bool
rows_in t rows = list_all (λ (r : Row). t r.slot) rows

abbrev pub writes_in : (Slot → Bool) → List Write → Bool
writes_in t ws = list_all (λ (w : Write). t w.slot) ws

module _ (t : Slot → Bool) (c : Cuts t) where
  over_rows : (s : Slot) (ys : List Row) → t s ≡ true → rows_in (λ q. not (t q)) ys ≡ true → above s ys ≡ true
  over_rows s ys e h = all_wider (λ (r : Row). not (t r.slot)) (λ (r : Row). slot_lt s r.slot) ys (λ r k. c s r.slot e (grind (arith, nat_tests))) h

  under_rows : (s : Slot) (xs : List Row) → t s ≡ false → rows_in t xs ≡ true → below xs s ≡ true
  under_rows s xs e h = all_wider (λ (r : Row). t r.slot) (λ (r : Row). slot_lt r.slot s) xs (λ r k. c r.slot s k e) h

  fits_in : (s : Slot) (o : Option Row) → is_fitting s o ≡ true → t s ≡ true → rows_in t (option_to_list o) ≡ true
  fits_in s None f e = refl
  fits_in s (Some r) f e = let same = ap t (slot_same r.slot s f) in grind (arith, nat_tests)

  written_in : (us : List Write) → are_fitting us ≡ true → writes_in t us ≡ true → list_all (λ (w : Write). list_all (λ (r : Row). t r.slot) (option_to_list w.row)) us ≡ true
  written_in [] f h = refl
  written_in (u ∷ us) f h = grind (arith, nat_tests, written_in us, fits_in u.slot u.row)

  -- writes of slots that pass go to the rows that pass, and the others to the others
  pub after_parts : (xs ys : List Row) (us vs : List Write) → are_fitting us ≡ true → rows_in t xs ≡ true → writes_in t us ≡ true
      → rows_in (λ q. not (t q)) ys ≡ true → writes_in (λ q. not (t q)) vs ≡ true → after (xs ++ ys) (us ++ vs) ≡ after xs us ++ after ys vs
  after_parts xs ys us vs f a b d e =
      let low = all_wider (λ (w : Write). t w.slot) (λ (w : Write). above w.slot ys) us (λ w k. over_rows w.slot ys k d) b in
      let mid : rows_in t (after xs us) ≡ true = all-after (λ (r : Row). t r.slot) xs us (written_in us f b) a in
      let high = all_wider (λ (w : Write). not (t w.slot)) (λ (w : Write). below (after xs us) w.slot) vs (λ w k. under_rows w.slot (after xs us) (grind (arith, nat_tests)) mid) e in
      after-append (xs ++ ys) us vs ∙ (ap (λ x. after x vs) (after_left xs ys us low) ∙ after_right (after xs us) ys vs high)
