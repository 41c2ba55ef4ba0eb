-- Rows after merged writes are the rows after the earlier writes, after the later ones.
use Rattle.std.proofs.Common.{◌≡◌, Bool, true, false, List, [], ◌∷◌, ◌++◌, ◌∙◌, refl, sym, ap, arith, cond, Some, None, Option}
use Rattle.std.specs.Prelude.{find, option_to_list}
use Rattle.std.specs.List.{list_all}
use Rattle.std.proofs.lemmas.List.{append-nil}
use Rattle.ifdb_value.proofs.Lists.{all_wider}
use Rattle.std.proofs.lemmas.Bool.Decides.{nat_tests}
use Rattle.ifdb_row.specs.declared.slot.Slot.{Slot}
use Rattle.ifdb_row.specs.declared.row.Row.{Row}
use Rattle.ifdb_row.specs.declared.write.Write.{Write}
use Rattle.ifdb_row.specs.Slots.{is_same_slot, slot_lt}
use Rattle.ifdb_row.specs.Writes.{is_fitting, are_fitting, are_rising, put, merged}
use Rattle.ifdb_row.specs.Content.{place, after, rising}
use Rattle.ifdb_row.proofs.SlotOrder.{slot_same, slot_itself, slot_lt_trans, slot_above}
use Rattle.ifdb_row.proofs.Children.{same_back}
use Rattle.ifdb_row.proofs.Rising.{lt_not_same}
use Rattle.ifdb_row.proofs.ContentLaws.{rising_place, rising_after, above, above_more}
use Rattle.ifdb_row.proofs.Sorted.{merged_fits, put_rises}

-- the row of a slot
abbrev pub row_at : Slot → List Row → Option Row
row_at s rows = find (λ (r : Row). is_same_slot s r.slot) rows

-- what some writes leave of a slot where this stood
abbrev pub left_by : Slot → List Write → Option Row → Option Row
left_by s [] o = o
left_by s (w ∷ ws) o = left_by s ws (cond (is_same_slot s w.slot) w.row o)

-- ---- the row of a slot

here : (r : Row) (rows : List Row) → row_at r.slot (r ∷ rows) ≡ Some r
here r rows = ap (λ b. cond b (Some r) (row_at r.slot rows)) (slot_itself r.slot)

-- a row stands in no slot before its rows
not_above : (s : Slot) (rows : List Row) → above s rows ≡ true → row_at s rows ≡ None
not_above s [] h = refl
not_above s (r ∷ rows) h =
    let parts : (slot_lt s r.slot ≡ true) × (above s rows ≡ true) = grind (arith, nat_tests) in
    let apart : is_same_slot s r.slot ≡ false = same_back s r.slot ∙ lt_not_same s r.slot parts.0 in
    grind (arith, nat_tests, not_above s rows parts.1)

behind : (s q : Slot) (rows : List Row) → slot_lt s q ≡ true → above q rows ≡ true → row_at s rows ≡ None
behind s q rows h k = not_above s rows (above_more s q rows h k)

front_at : (s q : Slot) (o : Option Row) (rows : List Row) → is_fitting q o ≡ true → row_at q rows ≡ None → row_at s (option_to_list o ++ rows) ≡ cond (is_same_slot s q) o (row_at s rows)
front_at s q None rows f h = by (is_same_slot s q) refl where
  by : (b : Bool) → is_same_slot s q ≡ b → row_at s rows ≡ cond b None (row_at s rows)
  by true e = ap (λ p. row_at p rows) (slot_same s q e) ∙ h
  by false e = refl
front_at s q (Some r) rows f h =
    let same : r.slot ≡ q = slot_same r.slot q f in
    ap (λ p. cond (is_same_slot s p) (Some r) (row_at s rows)) same

at_place : (s q : Slot) (o : Option Row) (rows : List Row) → is_fitting q o ≡ true → rising rows ≡ true → row_at s (place q o rows) ≡ cond (is_same_slot s q) o (row_at s rows)
at_place s q o [] f h = ap (row_at s) (sym (append-nil (option_to_list o))) ∙ front_at s q o [] f refl
at_place s q o (r ∷ rows) f h = by (at_place s q o rows f (grind (arith, nat_tests))) (is_same_slot q r.slot) refl where
  up : above r.slot rows ≡ true
  up = grind (arith, nat_tests)

  none : slot_lt q r.slot ≡ true → row_at q (r ∷ rows) ≡ None
  none lt = not_above q (r ∷ rows) (grind (arith, nat_tests, above_more q r.slot rows lt up))

  keep : row_at s (place q o rows) ≡ cond (is_same_slot s q) o (row_at s rows) → (b : Bool) → is_same_slot q r.slot ≡ false → is_same_slot s r.slot ≡ b → cond b (Some r) (row_at s (place q o rows)) ≡ cond (is_same_slot s q) o (cond b (Some r) (row_at s rows))
  keep more true e k =
      let same : s ≡ r.slot = slot_same s r.slot k in
      let apart : is_same_slot s q ≡ false = ap (λ p. is_same_slot p q) same ∙ same_back r.slot q ∙ e in
      rw apart refl
  keep more false e k = more

  less : row_at s (place q o rows) ≡ cond (is_same_slot s q) o (row_at s rows) → (b : Bool) → is_same_slot q r.slot ≡ false → slot_lt q r.slot ≡ b → row_at s (cond b (option_to_list o ++ (r ∷ rows)) (r ∷ place q o rows)) ≡ cond (is_same_slot s q) o (row_at s (r ∷ rows))
  less more true e k = front_at s q o (r ∷ rows) f (none k)
  less more false e k = keep more (is_same_slot s r.slot) e refl

  there : (b : Bool) → is_same_slot q r.slot ≡ true → is_same_slot s r.slot ≡ b → row_at s (option_to_list o ++ rows) ≡ cond (is_same_slot s q) o (cond b (Some r) (row_at s rows))
  there b e k =
      let same : q ≡ r.slot = slot_same q r.slot e in
      let gone : row_at q rows ≡ None = not_above q rows (ap (λ p. above p rows) same ∙ up) in
      front_at s q o rows f gone ∙ over b (ap (is_same_slot s) same ∙ k) where
        over : (b : Bool) → is_same_slot s q ≡ b → cond (is_same_slot s q) o (row_at s rows) ≡ cond (is_same_slot s q) o (cond b (Some r) (row_at s rows))
        over true i = rw i refl
        over false i = rw i refl

  by : row_at s (place q o rows) ≡ cond (is_same_slot s q) o (row_at s rows) → (b : Bool) → is_same_slot q r.slot ≡ b
      → row_at s (cond b (option_to_list o ++ rows) (cond (slot_lt q r.slot) (option_to_list o ++ (r ∷ rows)) (r ∷ place q o rows))) ≡ cond (is_same_slot s q) o (row_at s (r ∷ rows))
  by more true e = there (is_same_slot s r.slot) e refl
  by more false e = less more (slot_lt q r.slot) e refl

at_after : (s : Slot) (rows : List Row) (ws : List Write) → are_fitting ws ≡ true → rising rows ≡ true → row_at s (after rows ws) ≡ left_by s ws (row_at s rows)
at_after s rows [] f h = refl
at_after s rows (w ∷ ws) f h =
    let parts : (is_fitting w.slot w.row ≡ true) × (are_fitting ws ≡ true) = grind (arith, nat_tests) in
    at_after s (place w.slot w.row rows) ws parts.1 (rising_place w.slot w.row rows parts.0 h) ∙ ap (left_by s ws) (at_place s w.slot w.row rows parts.0 h)

-- ---- what writes leave of a slot

left_behind : (s q : Slot) (ws : List Write) (o : Option Row) → is_same_slot s q ≡ true → list_all (λ (v : Write). slot_lt q v.slot) ws ≡ true → left_by s ws o ≡ o
left_behind s q [] o e h = refl
left_behind s q (v ∷ ws) o e h =
    let parts : (slot_lt q v.slot ≡ true) × (list_all (λ (v : Write). slot_lt q v.slot) ws ≡ true) = grind (arith, nat_tests) in
    let apart : is_same_slot s v.slot ≡ false = ap (λ p. is_same_slot p v.slot) (slot_same s q e) ∙ same_back q v.slot ∙ lt_not_same q v.slot parts.0 in
    ap (λ b. left_by s ws (cond b v.row o)) apart ∙ left_behind s q ws o e parts.1

left_put : (s : Slot) (w : Write) (own : List Write) (o : Option Row) → are_rising own ≡ true → left_by s (put w own) o ≡ cond (is_same_slot s w.slot) w.row (left_by s own o)
left_put s w [] o h = refl
left_put s w (v ∷ own) o h = by (left_put s w own (cond (is_same_slot s v.slot) v.row o) (grind (arith, nat_tests))) (is_same_slot w.slot v.slot) refl where
  parts : (list_all (λ (u : Write). slot_lt v.slot u.slot) own ≡ true) × (are_rising own ≡ true)
  parts = grind (arith, nat_tests)

  -- the write takes the place of one of its slot
  there : (b : Bool) → is_same_slot w.slot v.slot ≡ true → is_same_slot s w.slot ≡ b → left_by s own (cond b w.row o) ≡ cond b w.row (left_by s own (cond (is_same_slot s v.slot) v.row o))
  there true e k =
      let same : is_same_slot s v.slot ≡ true = ap (is_same_slot s) (sym (slot_same w.slot v.slot e)) ∙ k in
      left_behind s v.slot own w.row same parts.0
  there false e k =
      let apart : is_same_slot s v.slot ≡ false = ap (is_same_slot s) (sym (slot_same w.slot v.slot e)) ∙ k in
      ap (λ b. left_by s own (cond b v.row o)) (sym apart)

  -- it stands before all
  first : (b : Bool) → slot_lt w.slot v.slot ≡ true → is_same_slot s w.slot ≡ b → left_by s (v ∷ own) (cond b w.row o) ≡ cond b w.row (left_by s (v ∷ own) o)
  first true lt k = left_behind s w.slot (v ∷ own) w.row k (grind (arith, nat_tests, wider lt)) where
    wider : slot_lt w.slot v.slot ≡ true → list_all (λ (u : Write). slot_lt w.slot u.slot) own ≡ true
    wider i = all_wider (λ (u : Write). slot_lt v.slot u.slot) (λ (u : Write). slot_lt w.slot u.slot) own (λ u j. slot_lt_trans w.slot v.slot u.slot i j) parts.0
  first false lt k = refl

  less : left_by s (put w own) (cond (is_same_slot s v.slot) v.row o) ≡ cond (is_same_slot s w.slot) w.row (left_by s own (cond (is_same_slot s v.slot) v.row o)) → (b : Bool) → is_same_slot w.slot v.slot ≡ false → slot_lt w.slot v.slot ≡ b → left_by s (cond b (w ∷ v ∷ own) (v ∷ put w own)) o ≡ cond (is_same_slot s w.slot) w.row (left_by s (v ∷ own) o)
  less more true e lt = first (is_same_slot s w.slot) lt refl
  less more false e lt = more

  by : left_by s (put w own) (cond (is_same_slot s v.slot) v.row o) ≡ cond (is_same_slot s w.slot) w.row (left_by s own (cond (is_same_slot s v.slot) v.row o)) → (b : Bool) → is_same_slot w.slot v.slot ≡ b → left_by s (cond b (w ∷ own) (cond (slot_lt w.slot v.slot) (w ∷ v ∷ own) (v ∷ put w own))) o ≡ cond (is_same_slot s w.slot) w.row (left_by s (v ∷ own) o)
  by more true e = there (is_same_slot s w.slot) e refl
  by more false e = less more (slot_lt w.slot v.slot) e refl

left_merged : (s : Slot) (own ws : List Write) (o : Option Row) → are_rising own ≡ true → left_by s (merged own ws) o ≡ left_by s ws (left_by s own o)
left_merged s own [] o h = refl
left_merged s own (w ∷ ws) o h = left_merged s (put w own) ws o (put_rises w own h) ∙ ap (left_by s ws) (left_put s w own o h)

-- ---- rows are what stands in their slots

pub same_rows : (xs ys : List Row) → rising xs ≡ true → rising ys ≡ true → ((s : Slot) → row_at s xs ≡ row_at s ys) → xs ≡ ys
same_rows [] [] h k e = refl
same_rows [] (y ∷ ys) h k e = absurd (nothing (e y.slot ∙ here y ys)) where
  nothing : None ≡ Some y → ⊥
  nothing i = cc
same_rows (x ∷ xs) [] h k e = absurd (nothing (sym (e x.slot) ∙ here x xs)) where
  nothing : None ≡ Some x → ⊥
  nothing i = cc
same_rows (x ∷ xs) (y ∷ ys) h k e = by (same_rows xs ys (grind (arith, nat_tests)) (grind (arith, nat_tests))) (is_same_slot x.slot y.slot) refl where
  h_parts : (above x.slot xs ≡ true) × (rising xs ≡ true)
  h_parts = grind (arith, nat_tests)

  k_parts : (above y.slot ys ≡ true) × (rising ys ≡ true)
  k_parts = grind (arith, nat_tests)

  nothing : (r : Row) → None ≡ Some r → ⊥
  nothing r i = cc

  -- the first rows are of one slot
  tails : is_same_slot x.slot y.slot ≡ true → (s : Slot) (b : Bool) → is_same_slot s x.slot ≡ b → row_at s xs ≡ row_at s ys
  tails i s true j =
      let left : row_at s xs ≡ None = ap (λ p. row_at p xs) (slot_same s x.slot j) ∙ not_above x.slot xs h_parts.0 in
      let same : s ≡ y.slot = slot_same s x.slot j ∙ slot_same x.slot y.slot i in
      let right : row_at s ys ≡ None = ap (λ p. row_at p ys) same ∙ not_above y.slot ys k_parts.0 in
      left ∙ sym right
  tails i s false j =
      let apart : is_same_slot s y.slot ≡ false = ap (is_same_slot s) (sym (slot_same x.slot y.slot i)) ∙ j in
      ap (λ b. cond b (Some x) (row_at s xs)) (sym j) ∙ e s ∙ ap (λ b. cond b (Some y) (row_at s ys)) apart

  -- one of them stands before the other, and isn't there
  ordered : (b : Bool) → is_same_slot x.slot y.slot ≡ false → slot_lt x.slot y.slot ≡ b → x ∷ xs ≡ y ∷ ys
  ordered true i j =
      let gone : row_at x.slot (y ∷ ys) ≡ None = not_above x.slot (y ∷ ys) (grind (arith, nat_tests, above_more x.slot y.slot ys j k_parts.0)) in
      absurd (nothing x (sym gone ∙ sym (e x.slot) ∙ here x xs))
  ordered false i j =
      let lt = slot_above x.slot y.slot i j in
      let gone : row_at y.slot (x ∷ xs) ≡ None = not_above y.slot (x ∷ xs) (grind (arith, nat_tests, above_more y.slot x.slot xs lt h_parts.0)) in
      absurd (nothing y (sym gone ∙ e y.slot ∙ here y ys))

  by : (((s : Slot) → row_at s xs ≡ row_at s ys) → xs ≡ ys) → (b : Bool) → is_same_slot x.slot y.slot ≡ b → x ∷ xs ≡ y ∷ ys
  by more true i =
      let firsts : Some x ≡ Some y = sym (here x xs) ∙ e x.slot ∙ ap (λ p. row_at p (y ∷ ys)) (slot_same x.slot y.slot i) ∙ here y ys in
      let one : x ≡ y = cc in
      let rest = more (λ s. tails i s (is_same_slot s x.slot) refl) in
      λ n. one n ∷ rest n
  by more false i = ordered (slot_lt x.slot y.slot) i refl

-- later writes may be merged into earlier ones
pub after_merged : (rows : List Row) (own ws : List Write) → rising rows ≡ true → are_rising own ≡ true → are_fitting own ≡ true → are_fitting ws ≡ true
    → after rows (merged own ws) ≡ after (after rows own) ws
after_merged rows own ws h r f g =
    let both = merged_fits own ws f g in
    let up = rising_after rows own f h in
    same_rows (after rows (merged own ws)) (after (after rows own) ws) (rising_after rows (merged own ws) both h) (rising_after (after rows own) ws g up)
    (λ s. at_after s rows (merged own ws) both h ∙ left_merged s own ws (row_at s rows) r ∙ ap (left_by s ws) (sym (at_after s rows own f h)) ∙ sym (at_after s (after rows own) ws g up))
