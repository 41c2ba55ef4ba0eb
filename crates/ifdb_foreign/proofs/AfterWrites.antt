-- The first row that passes a test, after some writes: among the rows of before whose slots aren't written, and the written rows.
use Rattle.std.proofs.Common.{◌≡◌, ◌<◌, length, get_or, Bool, true, false, List, [], ◌∷◌, ◌++◌, ◌∙◌, refl, sym, ap, arith, Some, None, Option, ◌&&◌, ◌||◌}
use Rattle.std.specs.Prelude.{IsTrue, not, is_some, is_none, find, option_to_list, if◌then◌else◌}
use Rattle.std.specs.List.{list_all, list_any}
use Rattle.std.proofs.lemmas.Bool.{false≢true}
use Rattle.std.proofs.lemmas.Bool.Decides.{nat_tests}
use Rattle.ifdb_row.specs.declared.slot.Slot.{Slot}
use Rattle.ifdb_row.specs.declared.row.Row.{Row}
use Rattle.ifdb_row.specs.declared.write.Write.{Write}
use Rattle.ifdb_row.specs.Slots.{is_same_slot, slot_lt}
use Rattle.ifdb_row.specs.Writes.{is_gone, is_fitting, are_fitting, are_rising, is_written, deletes}
use Rattle.ifdb_row.specs.Content.{place, after, live, rising}
use Rattle.ifdb_row.specs.Questions.{earlier, if_passes}
use Rattle.ifdb_foreign.specs.Left.{first_written, unwritten}
use Rattle.ifdb_row.proofs.SlotOrder.{slot_same, slot_lt_trans, slot_lt_itself, slot_above}
use Rattle.ifdb_row.proofs.Rising.{lt_not_same, lt_not_back}
use Rattle.ifdb_row.proofs.ContentLaws.{rising_place}
use Rattle.ifdb_row.proofs.KeyRows.{found_all}
use Rattle.ifdb_row.proofs.Children.{same_back}

-- ---- the earlier of rows

earlier_none : (o : Option Row) → earlier o None ≡ o
earlier_none None = refl
earlier_none (Some r) = refl

-- what doesn't stand before another, where that doesn't stand before a third
not_lt_trans : (r s t : Slot) → slot_lt s r ≡ false → slot_lt t s ≡ false → slot_lt t r ≡ false
not_lt_trans r s t h k = by (slot_lt t r) refl (is_same_slot t s) refl where
  by : (a : Bool) → slot_lt t r ≡ a → (b : Bool) → is_same_slot t s ≡ b → slot_lt t r ≡ false
  by false e b f = e
  by true e true f = absurd (false≢true (sym h ∙ (ap (λ x. slot_lt x r) (sym (slot_same t s f)) ∙ e)))
  by true e false f = absurd (false≢true (sym h ∙ slot_lt_trans s t r (slot_above t s f k) e))

earlier_assoc : (a b c : Option Row) → earlier (earlier a b) c ≡ earlier a (earlier b c)
earlier_assoc None b c = refl
earlier_assoc (Some r) None c = refl
earlier_assoc (Some r) (Some s) None = earlier_none (if slot_lt s.slot r.slot then Some s else Some r)
earlier_assoc (Some r) (Some s) (Some t) = by (slot_lt s.slot r.slot) refl (slot_lt t.slot s.slot) refl where
  by : (x : Bool) → slot_lt s.slot r.slot ≡ x → (y : Bool) → slot_lt t.slot s.slot ≡ y → earlier (earlier (Some r) (Some s)) (Some t) ≡ earlier (Some r) (earlier (Some s) (Some t))
  by true e true f = let k = slot_lt_trans t.slot s.slot r.slot f e in grind (arith, nat_tests)
  by true e false f = grind (arith, nat_tests)
  by false e true f = grind (arith, nat_tests)
  by false e false f = let k = not_lt_trans r.slot s.slot t.slot e f in grind (arith, nat_tests)

-- ---- one write

abbrev but : Slot → (Row → Bool) → Row → Bool
but s p r = not (is_same_slot s r.slot) && p r

-- among rows behind a slot, none stands in it
find_but : (p : Row → Bool) (s : Slot) (rows : List Row) → list_all (λ (x : Row). slot_lt s x.slot) rows ≡ true → find (but s p) rows ≡ find p rows
find_but p s [] h = refl
find_but p s (r ∷ rows) h =
    let apart : slot_lt s r.slot ≡ true → is_same_slot s r.slot ≡ false = λ e. not_same s r.slot e in
    grind (arith, nat_tests, find_but p s rows, apart) where
      not_same : (s q : Slot) → slot_lt s q ≡ true → is_same_slot s q ≡ false
      not_same s q e = by (is_same_slot s q) refl where
        by : (b : Bool) → is_same_slot s q ≡ b → is_same_slot s q ≡ false
        by false k = k
        by true k = absurd (false≢true (sym (slot_lt_itself q) ∙ (ap (λ x. slot_lt x q) (sym (slot_same s q k)) ∙ e)))

-- a row in front of rows behind its slot
find_front : (p : Row → Bool) (s : Slot) (o : Option Row) (rows : List Row) → is_fitting s o ≡ true → list_all (λ (x : Row). slot_lt s x.slot) rows ≡ true
    → find p (option_to_list o ++ rows) ≡ earlier (find p rows) (if_passes p o)
find_front p s None rows f h = sym (earlier_none (find p rows))
find_front p s (Some x) rows f h = by (p x) refl (find p rows) refl where
  up : list_all (λ (y : Row). slot_lt x.slot y.slot) rows ≡ true
  up = ap (λ q. list_all (λ (y : Row). slot_lt q y.slot) rows) (slot_same x.slot s f) ∙ h

  by : (b : Bool) → p x ≡ b → (o : Option Row) → find p rows ≡ o → find p (x ∷ rows) ≡ earlier (find p rows) (if_passes p (Some x))
  by true e None k = ap (λ u. if p x then Some x else u) k ∙ (ap (λ c. if c then Some x else None) e ∙ sym (ap (λ u. earlier u (if_passes p (Some x))) k ∙ ap (λ c. earlier None (if c then Some x else None)) e))
  by true e (Some y) k =
      let first = found_all (λ (y : Row). slot_lt x.slot y.slot) p rows y k up in
      grind (arith, nat_tests)
  by false e o k = let n = earlier_none (find p rows) in grind (arith, nat_tests)

find_place : (p : Row → Bool) (s : Slot) (o : Option Row) (rows : List Row) → is_fitting s o ≡ true → rising rows ≡ true
    → find p (place s o rows) ≡ earlier (find (but s p) rows) (if_passes p o)
find_place p s None [] f h = refl
find_place p s (Some x) [] f h = refl
find_place p s o (r ∷ rows) f h = by (find_place p s o rows f) (is_same_slot s r.slot) refl (slot_lt s r.slot) refl where
  behind : list_all (λ (x : Row). slot_lt r.slot x.slot) rows ≡ true
  behind = grind (arith, nat_tests)

  under : slot_lt s r.slot ≡ true → list_all (λ (x : Row). slot_lt s x.slot) rows ≡ true
  under e = Rattle.ifdb_value.proofs.Lists.all_wider (λ (x : Row). slot_lt r.slot x.slot) (λ (x : Row). slot_lt s x.slot) rows (λ x k. slot_lt_trans s r.slot x.slot e k) behind

  kept : slot_lt r.slot s ≡ true → (o : Option Row) → is_fitting s o ≡ true → earlier (Some r) (if_passes p o) ≡ Some r
  kept e None g = refl
  kept e (Some x) g = by (p x) where
    low : slot_lt x.slot r.slot ≡ false
    low = ap (λ q. slot_lt q r.slot) (slot_same x.slot s g) ∙ lt_not_back r.slot s e

    by : (b : Bool) → earlier (Some r) (if b then Some x else None) ≡ Some r
    by true = ap (λ c. if c then Some x else Some r) low
    by false = refl

  by : (rising rows ≡ true → find p (place s o rows) ≡ earlier (find (but s p) rows) (if_passes p o)) → (a : Bool) → is_same_slot s r.slot ≡ a → (b : Bool) → slot_lt s r.slot ≡ b
      → find p (place s o (r ∷ rows)) ≡ earlier (find (but s p) (r ∷ rows)) (if_passes p o)
  by more true e b k =
      let up : list_all (λ (x : Row). slot_lt s x.slot) rows ≡ true = ap (λ q. list_all (λ (x : Row). slot_lt q x.slot) rows) (slot_same s r.slot e) ∙ behind in
      let front = find_front p s o rows f up in
      let rest = find_but p s rows up in
      let gone : find (but s p) (r ∷ rows) ≡ find (but s p) rows = grind (arith, nat_tests) in
      let placed : place s o (r ∷ rows) ≡ option_to_list o ++ rows = grind (arith, nat_tests) in
      ap (find p) placed ∙ front ∙ ap (λ u. earlier u (if_passes p o)) (sym rest ∙ sym gone)
  by more false e true k =
      let up : list_all (λ (x : Row). slot_lt s x.slot) (r ∷ rows) ≡ true = let u = under k in grind (arith, nat_tests) in
      let front = find_front p s o (r ∷ rows) f up in
      let rest = find_but p s (r ∷ rows) up in
      let placed : place s o (r ∷ rows) ≡ option_to_list o ++ (r ∷ rows) = grind (arith, nat_tests) in
      ap (find p) placed ∙ front ∙ ap (λ u. earlier u (if_passes p o)) (sym rest)
  by more false e false k = last (p r) refl where
    up : slot_lt r.slot s ≡ true
    up = slot_above s r.slot e k

    placed : place s o (r ∷ rows) ≡ r ∷ place s o rows
    placed = grind (arith, nat_tests)

    last : (c : Bool) → p r ≡ c → find p (place s o (r ∷ rows)) ≡ earlier (find (but s p) (r ∷ rows)) (if_passes p o)
    last true l =
        let one : find p (r ∷ place s o rows) ≡ Some r = grind (arith, nat_tests) in
        let two : find (but s p) (r ∷ rows) ≡ Some r = grind (arith, nat_tests) in
        ap (find p) placed ∙ one ∙ sym (ap (λ u. earlier u (if_passes p o)) two ∙ kept up o f)
    last false l =
        let one : find p (r ∷ place s o rows) ≡ find p (place s o rows) = grind (arith, nat_tests) in
        let two : find (but s p) (r ∷ rows) ≡ find (but s p) rows = grind (arith, nat_tests) in
        ap (find p) placed ∙ one ∙ more (grind (arith, nat_tests)) ∙ ap (λ u. earlier u (if_passes p o)) (sym two)

-- ---- all writes

pub find_same : (p q : Row → Bool) (rows : List Row) → ((r : Row) → p r ≡ q r) → find p rows ≡ find q rows
find_same p q [] h = refl
find_same p q (r ∷ rows) h = grind (arith, nat_tests, find_same p q rows h, h r)

-- a slot before all writes isn't written
not_written : (s : Slot) (ws : List Write) → list_all (λ (v : Write). slot_lt s v.slot) ws ≡ true → is_written ws s ≡ false
not_written s [] h = refl
not_written s (v ∷ ws) h = grind (arith, nat_tests, not_written s ws, lt_not_same s v.slot)

passes_too : (q : Row → Bool) (ws : List Write) (s : Slot) (o : Option Row) → is_fitting s o ≡ true → is_written ws s ≡ false → if_passes (unwritten ws q) o ≡ if_passes q o
passes_too q ws s None f h = refl
passes_too q ws s (Some x) f h =
    let none : is_written ws x.slot ≡ false = ap (is_written ws) (slot_same x.slot s f) ∙ h in
    grind (arith, nat_tests)

pub find_after : (q : Row → Bool) (rows : List Row) (ws : List Write) → rising rows ≡ true → are_rising ws ≡ true → are_fitting ws ≡ true
    → find q (after rows ws) ≡ earlier (find (unwritten ws q) rows) (first_written q ws)
find_after q rows [] h u f = find_same q (unwritten [] q) rows (λ r. refl) ∙ sym (earlier_none (find (unwritten [] q) rows))
find_after q rows (w ∷ ws) h u f =
    let parts : (list_all (λ (v : Write). slot_lt w.slot v.slot) ws ≡ true) × (are_rising ws ≡ true) = grind (arith, nat_tests) in
    let fits : (is_fitting w.slot w.row ≡ true) × (are_fitting ws ≡ true) = grind (arith, nat_tests) in
    let up = rising_place w.slot w.row rows fits.0 h in
    let rest = find_after q (place w.slot w.row rows) ws up parts.1 fits.1 in
    let one = find_place (unwritten ws q) w.slot w.row rows fits.0 h in
    let same = find_same (but w.slot (unwritten ws q)) (unwritten (w ∷ ws) q) rows (λ r. grind (arith, nat_tests)) in
    let passing = passes_too q ws w.slot w.row fits.0 (not_written w.slot ws parts.0) in
    rest
    ∙ ap (λ o. earlier o (first_written q ws)) (one ∙ (λ i. earlier (same i) (passing i)))
    ∙ earlier_assoc (find (unwritten (w ∷ ws) q) rows) (if_passes q w.row) (first_written q ws)

-- ---- whether a slot is live after some writes

-- what a write of the slot says, or else what was so before
abbrev pub stands_after : Bool → Option Write → Bool
stands_after before None = before
stands_after before (Some w) = not (is_gone w.row)

abbrev of_slot : Slot → List Write → Option Write
of_slot s ws = find (λ (w : Write). is_same_slot s w.slot) ws

any_found : (q : Row → Bool) (rows : List Row) → list_any q rows ≡ is_some (find q rows)
any_found q [] = refl
any_found q (r ∷ rows) = grind (arith, nat_tests, any_found q rows)

some_earlier : (a b : Option Row) → is_some (earlier a b) ≡ is_some a || is_some b
some_earlier None b = refl
some_earlier (Some r) None = refl
some_earlier (Some r) (Some s) = by (slot_lt s.slot r.slot) where
  by : (c : Bool) → is_some (if c then Some s else Some r) ≡ true
  by true = refl
  by false = refl

-- the written row of a slot
abbrev in_slot : Slot → Row → Bool
in_slot s r = is_same_slot r.slot s

here : (s : Slot) (q : Slot) (o : Option Row) → is_fitting q o ≡ true → is_same_slot s q ≡ true → is_some (if_passes (in_slot s) o) ≡ not (is_gone o)
here s q None f h = refl
here s q (Some r) f h =
    let one : is_same_slot r.slot s ≡ true = ap (λ x. is_same_slot r.slot x) (slot_same s q h) ∙ f in
    grind (arith, nat_tests)

elsewhere : (s : Slot) (q : Slot) (o : Option Row) → is_fitting q o ≡ true → is_same_slot s q ≡ false → if_passes (in_slot s) o ≡ None
elsewhere s q None f h = refl
elsewhere s q (Some r) f h =
    let one : is_same_slot r.slot s ≡ false = ap (λ x. is_same_slot x s) (slot_same r.slot q f) ∙ same_back q s ∙ h in
    grind (arith, nat_tests)

unwritten_none : (s : Slot) (ws : List Write) → are_fitting ws ≡ true → is_written ws s ≡ false → first_written (in_slot s) ws ≡ None
unwritten_none s [] f h = refl
unwritten_none s (w ∷ ws) f h =
    let one = elsewhere s w.slot w.row (grind (arith, nat_tests)) (same_back s w.slot ∙ grind (arith, nat_tests)) in
    let rest = unwritten_none s ws (grind (arith, nat_tests)) (grind (arith, nat_tests)) in
    λ i. earlier (one i) (rest i)

-- the slot is written in rising writes: its one write tells
written_some : (s : Slot) (ws : List Write) → are_rising ws ≡ true → are_fitting ws ≡ true → is_some (first_written (in_slot s) ws) ≡ stands_after false (of_slot s ws)
written_some s [] u f = refl
written_some s (w ∷ ws) u f = by (written_some s ws (grind (arith, nat_tests)) (grind (arith, nat_tests))) (is_same_slot s w.slot) refl where
  fits : is_fitting w.slot w.row ≡ true
  fits = grind (arith, nat_tests)

  by : is_some (first_written (in_slot s) ws) ≡ stands_after false (of_slot s ws) → (b : Bool) → is_same_slot s w.slot ≡ b → is_some (first_written (in_slot s) (w ∷ ws)) ≡ stands_after false (of_slot s (w ∷ ws))
  by more true e =
      let behind : list_all (λ (v : Write). slot_lt s v.slot) ws ≡ true = ap (λ q. list_all (λ (v : Write). slot_lt q v.slot) ws) (slot_same s w.slot e) ∙ grind (arith, nat_tests) in
      let none = unwritten_none s ws (grind (arith, nat_tests)) (not_written s ws behind) in
      let one = here s w.slot w.row fits e in
      some_earlier (if_passes (in_slot s) w.row) (first_written (in_slot s) ws)
      ∙ (λ i. one i || is_some (none i))
      ∙ (let k : of_slot s (w ∷ ws) ≡ Some w = ap (λ c. if c then Some w else of_slot s ws) e in or_none (not (is_gone w.row)) ∙ sym (ap (stands_after false) k)) where
        or_none : (c : Bool) → c || false ≡ c
        or_none true = refl
        or_none false = refl
  by more false e =
      let one = elsewhere s w.slot w.row fits e in
      let k : of_slot s (w ∷ ws) ≡ of_slot s ws = ap (λ c. if c then Some w else of_slot s ws) e in
      ap (λ o. is_some (earlier o (first_written (in_slot s) ws))) one ∙ more ∙ sym (ap (stands_after false) k)

of_slot_none : (s : Slot) (ws : List Write) → is_written ws s ≡ false → of_slot s ws ≡ None
of_slot_none s [] h = refl
of_slot_none s (w ∷ ws) h = let e = same_back s w.slot in grind (arith, nat_tests, of_slot_none s ws)

of_slot_some : (s : Slot) (ws : List Write) (b : Bool) → is_written ws s ≡ true → stands_after b (of_slot s ws) ≡ stands_after false (of_slot s ws)
of_slot_some s [] b h = cc
of_slot_some s (w ∷ ws) b h = by (of_slot_some s ws b) (is_same_slot s w.slot) refl where
  by : (is_written ws s ≡ true → stands_after b (of_slot s ws) ≡ stands_after false (of_slot s ws)) → (c : Bool) → is_same_slot s w.slot ≡ c → stands_after b (of_slot s (w ∷ ws)) ≡ stands_after false (of_slot s (w ∷ ws))
  by more true e = let k : of_slot s (w ∷ ws) ≡ Some w = ap (λ c. if c then Some w else of_slot s ws) e in ap (stands_after b) k ∙ sym (ap (stands_after false) k)
  by more false e =
      let k : of_slot s (w ∷ ws) ≡ of_slot s ws = ap (λ c. if c then Some w else of_slot s ws) e in
      let back = same_back s w.slot in
      ap (stands_after b) k ∙ more (grind (arith, nat_tests)) ∙ sym (ap (stands_after false) k)

-- rows of before in a slot that is written, or not
none_before : (s : Slot) (rows : List Row) (ws : List Write) → is_written ws s ≡ true → find (unwritten ws (in_slot s)) rows ≡ None
none_before s [] ws h = refl
none_before s (r ∷ rows) ws h =
    let there : is_same_slot r.slot s ≡ true → is_written ws r.slot ≡ true = λ e. ap (is_written ws) (slot_same r.slot s e) ∙ h in
    grind (arith, nat_tests, none_before s rows ws h, there)

as_before : (s : Slot) (rows : List Row) (ws : List Write) → is_written ws s ≡ false → find (unwritten ws (in_slot s)) rows ≡ find (in_slot s) rows
as_before s [] ws h = refl
as_before s (r ∷ rows) ws h =
    let there : is_same_slot r.slot s ≡ true → is_written ws r.slot ≡ false = λ e. ap (is_written ws) (slot_same r.slot s e) ∙ h in
    grind (arith, nat_tests, as_before s rows ws h, there)

pub live_after_writes : (rows : List Row) (ws : List Write) (s : Slot) → rising rows ≡ true → are_rising ws ≡ true → are_fitting ws ≡ true
    → stands_after (live rows s) (of_slot s ws) ≡ live (after rows ws) s
live_after_writes rows ws s h u f = sym (any_found (in_slot s) (after rows ws) ∙ ap is_some (find_after (in_slot s) rows ws h u f)
    ∙ some_earlier (find (unwritten ws (in_slot s)) rows) (first_written (in_slot s) ws) ∙ by (is_written ws s) refl) where
      by : (b : Bool) → is_written ws s ≡ b → is_some (find (unwritten ws (in_slot s)) rows) || is_some (first_written (in_slot s) ws) ≡ stands_after (live rows s) (of_slot s ws)
      by true e = (λ i. is_some (none_before s rows ws e i) || written_some s ws u f i) ∙ sym (of_slot_some s ws (live rows s) e)
      by false e = (λ i. is_some (as_before s rows ws e i) || is_some (unwritten_none s ws f e i)) ∙ or_none (is_some (find (in_slot s) rows)) ∙ sym (any_found (in_slot s) rows) ∙ sym (ap (stands_after (live rows s)) (of_slot_none s ws e)) where
        or_none : (c : Bool) → c || false ≡ c
        or_none true = refl
        or_none false = refl

-- ---- whether the writes empty a slot

abbrev pub empties : Option Write → Bool
empties None = false
empties (Some w) = is_gone w.row

pub deletes_at : (ws : List Write) (s : Slot) → are_rising ws ≡ true → empties (of_slot s ws) ≡ deletes ws s
deletes_at [] s u = refl
deletes_at (w ∷ ws) s u = by (deletes_at ws s (grind (arith, nat_tests))) (is_same_slot s w.slot) refl where
  no_more : list_all (λ (v : Write). slot_lt s v.slot) ws ≡ true → deletes ws s ≡ false
  no_more k = any_gone ws k where
    any_gone : (vs : List Write) → list_all (λ (v : Write). slot_lt s v.slot) vs ≡ true → deletes vs s ≡ false
    any_gone [] k = refl
    any_gone (v ∷ vs) k = grind (arith, nat_tests, any_gone vs, lt_not_same s v.slot)

  by : empties (of_slot s ws) ≡ deletes ws s → (b : Bool) → is_same_slot s w.slot ≡ b → empties (of_slot s (w ∷ ws)) ≡ deletes (w ∷ ws) s
  by more true e =
      let k : of_slot s (w ∷ ws) ≡ Some w = ap (λ c. if c then Some w else of_slot s ws) e in
      let behind : list_all (λ (v : Write). slot_lt s v.slot) ws ≡ true = ap (λ q. list_all (λ (v : Write). slot_lt q v.slot) ws) (slot_same s w.slot e) ∙ grind (arith, nat_tests) in
      let none = no_more behind in
      let back = same_back s w.slot in
      ap empties k ∙ grind (arith, nat_tests)
  by more false e =
      let k : of_slot s (w ∷ ws) ≡ of_slot s ws = ap (λ c. if c then Some w else of_slot s ws) e in
      let back = same_back s w.slot in
      ap empties k ∙ more ∙ grind (arith, nat_tests)

-- ---- the first written row that passes, one write after the other

first_behind : (q : Row → Bool) (s : Slot) (ws : List Write) (o : Option Row) → first_written q ws ≡ o → are_fitting ws ≡ true → list_all (λ (v : Write). slot_lt s v.slot) ws ≡ true → (r : Row) → r.slot ≡ s → earlier (Some r) o ≡ Some r
first_behind q s [] o e f h r k = ap (earlier (Some r)) (sym e)
first_behind q s (w ∷ ws) o e f h r k =
    let rest = first_behind q s ws (first_written q ws) refl (grind (arith, nat_tests)) (grind (arith, nat_tests)) r k in
    ap (earlier (Some r)) (sym e) ∙ sym (earlier_assoc (Some r) (if_passes q w.row) (first_written q ws)) ∙ ap (λ u. earlier u (first_written q ws)) (one w.row (grind (arith, nat_tests))) ∙ rest where
      low : slot_lt w.slot s ≡ false
      low = lt_not_back s w.slot (grind (arith, nat_tests))

      one : (o : Option Row) → is_fitting w.slot o ≡ true → earlier (Some r) (if_passes q o) ≡ Some r
      one None g = refl
      one (Some x) g = by (q x) where
        under : slot_lt x.slot r.slot ≡ false
        under = (λ i. slot_lt (slot_same x.slot w.slot g i) (k i)) ∙ low

        by : (b : Bool) → earlier (Some r) (if b then Some x else None) ≡ Some r
        by true = ap (λ c. if c then Some x else Some r) under
        by false = refl

-- a written row that passes is the first, where none did before
pub first_here : (q : Row → Bool) (w : Write) (ws : List Write) (r : Row) → w.row ≡ Some r → q r ≡ true → are_rising (w ∷ ws) ≡ true → are_fitting (w ∷ ws) ≡ true → Some r ≡ first_written q (w ∷ ws)
first_here q w ws r e k u f =
    let fits : is_same_slot r.slot w.slot ≡ true = sym (ap (is_fitting w.slot) e) ∙ grind (arith, nat_tests) in
    let passes : if_passes q w.row ≡ Some r = ap (if_passes q) e ∙ ap (λ b. if b then Some r else None) k in
    sym (ap (λ o. earlier o (first_written q ws)) passes
    ∙ first_behind q w.slot ws (first_written q ws) refl (grind (arith, nat_tests)) (grind (arith, nat_tests)) r (slot_same r.slot w.slot fits))

pub first_on : (q : Row → Bool) (w : Write) (ws : List Write) → if_passes q w.row ≡ None → first_written q (w ∷ ws) ≡ first_written q ws
first_on q w ws e = ap (λ o. earlier o (first_written q ws)) e

-- ---- as code has it

pub is_true : (b : Bool) → IsTrue b → b ≡ true
is_true b h = grind (arith, nat_tests)

pub some_row : (o : Option Row) → is_some o ≡ not (is_gone o)
some_row None = refl
some_row (Some r) = refl

pub none_row : (o : Option Row) → is_none o ≡ is_gone o
none_row None = refl
none_row (Some r) = refl

passing : (q : Row → Bool) (o : Option Row) (r : Row) → if_passes q o ≡ Some r → (o ≡ Some r) × (q r ≡ true)
passing q None r e = cc
passing q (Some x) r e = by (q x) refl where
  by : (b : Bool) → q x ≡ b → (Some x ≡ Some r) × (q r ≡ true)
  by true k = let same : Some x ≡ Some r = sym (ap (λ c. if c then Some x else None) k) ∙ e in let one : x ≡ r = cc in (same, ap q (sym one) ∙ k)
  by false k = let no : None ≡ Some r = sym (ap (λ c. if c then Some x else None) k) ∙ e in absurd (cc)

-- the first of some writes gives a row that passes
pub first_given : (q : Row → Bool) (xs : List Write) (w : Write) (r : Row) → 0 < length xs → w ≡ get_or xs 0 w → Some r ≡ if_passes q w.row → are_rising xs ≡ true → are_fitting xs ≡ true
    → Some r ≡ first_written q xs
first_given q [] w r lt at e u f = absurd (omega arith)
first_given q (x ∷ xs) w r lt at e u f =
    let two = passing q x.row r (ap (λ (y : Write). if_passes q y.row) (sym at) ∙ sym e) in
    first_here q x xs r two.0 two.1 u f
