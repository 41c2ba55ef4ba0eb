-- What a COMMIT asks of written rows and of children is just that each row's parents stand after the writes.
use Rattle.std.proofs.Common.{◌≡◌, Bool, true, false, List, [], ◌∷◌, ◌++◌, refl, sym, ap, ◌∙◌, arith, Some, None, Option}
use Rattle.std.specs.Prelude.{◌&&◌, ◌||◌, not, option_to_list}
use Rattle.std.specs.List.{list_all, list_any}
use Rattle.std.proofs.lemmas.Bool.{false≢true}
use Rattle.std.proofs.lemmas.Bool.Decides.{nat_tests}
use Rattle.std.proofs.lemmas.List.Folds.{list_all-append}
use Rattle.ifdb_value.proofs.Lists.{all_wider}
use Rattle.ifdb_row.specs.declared.slot.Slot.{Slot}
use Rattle.ifdb_row.specs.declared.row.Row.{Row}
use Rattle.ifdb_row.specs.declared.write.Write.{Write}
use Rattle.ifdb_row.specs.Slots.{is_same_slot, slot_lt}
use Rattle.ifdb_row.specs.Content.{rising, place, after, live, are_rooted}
use Rattle.ifdb_row.specs.Writes.{are_rising, are_fitting, is_fitting, is_gone, is_written, deletes}
use Rattle.ifdb_row.specs.Verdict.{is_broken, breaks, is_left, leaves}
use Rattle.ifdb_row.proofs.SlotOrder.{slot_same, slot_lt_trans}
use Rattle.ifdb_row.proofs.Rising.{lt_not_same}
use Rattle.ifdb_row.proofs.Children.{same_back}
use Rattle.ifdb_row.proofs.RootedLaws.{rooted_after}
use Rattle.ifdb_row.proofs.ContentLaws.{rising_place}
use Rattle.ifdb_restore.specs.Parents.{ParentsAreSpared}
use Rattle.ifdb_row.proofs.LiveLaws.{after_old, brings, live_cases}

-- ---- written rows stand

front_all : {X : Type 0} (g : X → Bool) (xs ys : List X) → list_all g (xs ++ ys) ≡ true → list_all g xs ≡ true
front_all g xs ys e = let parts = list_all-append g xs ys in grind (arith, nat_tests, parts)

place_has : (g : Row → Bool) (s : Slot) (o : Option Row) (rows : List Row) → list_all g (place s o rows) ≡ true → list_all g (option_to_list o) ≡ true
place_has g s o [] e = e
place_has g s o (r ∷ rows) e = by (λ k. place_has g s o rows k) (is_same_slot s r.slot) refl (slot_lt s r.slot) refl where
  by : (list_all g (place s o rows) ≡ true → list_all g (option_to_list o) ≡ true) → (a : Bool) → is_same_slot s r.slot ≡ a → (b : Bool) → slot_lt s r.slot ≡ b → list_all g (option_to_list o) ≡ true
  by more true h b k = front_all g (option_to_list o) rows (rw h at e)
  by more false h true k = front_all g (option_to_list o) (r ∷ rows) (rw (h, k) at e)
  by more false h false k = let both : list_all g (r ∷ place s o rows) ≡ true = rw (h, k) at e in more (grind (arith, nat_tests))

not_behind : (s : Slot) (ws : List Write) → list_all (λ (v : Write). slot_lt s v.slot) ws ≡ true → is_written ws s ≡ false
not_behind s [] e = refl
not_behind s (w ∷ ws) e =
    let parts : (slot_lt s w.slot ≡ true) × (list_all (λ (v : Write). slot_lt s v.slot) ws ≡ true) = grind (arith, nat_tests) in
    let one = lt_not_same s w.slot parts.0 in
    grind (arith, nat_tests, not_behind s ws)

written_stand : (q : Row → Bool) (rows : List Row) (ws : List Write) → are_rising ws ≡ true → are_fitting ws ≡ true → list_all q (after rows ws) ≡ true
    → list_all (λ (w : Write). list_all q (option_to_list w.row)) ws ≡ true
written_stand q rows [] up fits all = refl
written_stand q rows (w ∷ ws) up fits all =
    let ups : (list_all (λ (v : Write). slot_lt w.slot v.slot) ws ≡ true) × (are_rising ws ≡ true) = grind (arith, nat_tests) in
    let fit : (is_fitting w.slot w.row ≡ true) × (are_fitting ws ≡ true) = grind (arith, nat_tests) in
    let rest = written_stand q (place w.slot w.row rows) ws ups.1 fit.1 all in
    let here = place_has (λ (r : Row). is_written ws r.slot || q r) w.slot w.row rows (after_old q (place w.slot w.row rows) ws all) in
    let first = by w.row fit.0 here (not_behind w.slot ws ups.0) in
    grind (arith, nat_tests)
  where
    by : (o : Option Row) → is_fitting w.slot o ≡ true → list_all (λ (r : Row). is_written ws r.slot || q r) (option_to_list o) ≡ true → is_written ws w.slot ≡ false
        → list_all q (option_to_list o) ≡ true
    by None f h n = refl
    by (Some r) f h n = let same = ap (is_written ws) (slot_same r.slot w.slot f) in grind (arith, nat_tests, same)

unbroken : (rows : List Row) (ws : List Write) → list_all (λ (w : Write). list_all (λ (r : Row). list_all (live rows) r.refs) (option_to_list w.row)) ws ≡ true → breaks rows ws ≡ false
unbroken rows [] e = refl
unbroken rows (w ∷ ws) e =
    let parts : (list_all (λ (r : Row). list_all (live rows) r.refs) (option_to_list w.row) ≡ true) × (list_all (λ (v : Write). list_all (λ (r : Row). list_all (live rows) r.refs) (option_to_list v.row)) ws ≡ true) = grind (arith, nat_tests) in
    let one = by w.row parts.0 in
    grind (arith, nat_tests, unbroken rows ws)
  where
    none_gone : (refs : List Slot) → list_all (live rows) refs ≡ true → list_any (λ p. not (live rows p)) refs ≡ false
    none_gone [] h = refl
    none_gone (p ∷ refs) h = grind (arith, nat_tests, none_gone refs)

    by : (o : Option Row) → list_all (λ (r : Row). list_all (live rows) r.refs) (option_to_list o) ≡ true → is_broken rows o ≡ false
    by None h = refl
    by (Some r) h = none_gone r.refs (grind (arith, nat_tests))

-- ---- emptied slots are empty

not_live : (s : Slot) (rows : List Row) → list_all (λ (r : Row). slot_lt s r.slot) rows ≡ true → live rows s ≡ false
not_live s [] e = refl
not_live s (r ∷ rows) e =
    let parts : (slot_lt s r.slot ≡ true) × (list_all (λ (x : Row). slot_lt s x.slot) rows ≡ true) = grind (arith, nat_tests) in
    let one = lt_not_same s r.slot parts.0 in
    grind (arith, nat_tests, not_live s rows)

gone_there : (s : Slot) (rows : List Row) → rising rows ≡ true → live (place s None rows) s ≡ false
gone_there s [] up = refl
gone_there s (r ∷ rows) up = by (λ k. gone_there s rows k) (is_same_slot s r.slot) refl (slot_lt s r.slot) refl where
  ups : (list_all (λ (x : Row). slot_lt r.slot x.slot) rows ≡ true) × (rising rows ≡ true)
  ups = grind (arith, nat_tests)

  by : (rising rows ≡ true → live (place s None rows) s ≡ false) → (a : Bool) → is_same_slot s r.slot ≡ a → (b : Bool) → slot_lt s r.slot ≡ b → live (place s None (r ∷ rows)) s ≡ false
  by more true h b k = rw h (ap (live rows) (slot_same s r.slot h) ∙ not_live r.slot rows ups.0)
  by more false h true k =
      let all : list_all (λ (x : Row). slot_lt s x.slot) rows ≡ true = all_wider (λ (x : Row). slot_lt r.slot x.slot) (λ (x : Row). slot_lt s x.slot) rows (λ x i. slot_lt_trans s r.slot x.slot k i) ups.0 in
      rw (h, k) (not_live s (r ∷ rows) (grind (arith, nat_tests)))
  by more false h false k =
      let other : is_same_slot r.slot s ≡ false = same_back r.slot s ∙ h in
      let less = more ups.1 in
      rw (h, k) (grind (arith, nat_tests))

brings_none : (s : Slot) (ws : List Write) → is_written ws s ≡ false → brings ws s ≡ false
brings_none s [] e = refl
brings_none s (w ∷ ws) e = grind (arith, nat_tests, brings_none s ws)

emptied : (rows : List Row) (ws : List Write) (p : Slot) → rising rows ≡ true → are_rising ws ≡ true → are_fitting ws ≡ true → deletes ws p ≡ true → live (after rows ws) p ≡ false
emptied rows [] p up ups fits e = absurd (false≢true e)
emptied rows (w ∷ ws) p up ups fits e = by (λ a b c d. emptied (place w.slot w.row rows) ws p a b c d) (deletes ws p) refl where
  behind : (list_all (λ (v : Write). slot_lt w.slot v.slot) ws ≡ true) × (are_rising ws ≡ true)
  behind = grind (arith, nat_tests)

  fit : (is_fitting w.slot w.row ≡ true) × (are_fitting ws ≡ true)
  fit = grind (arith, nat_tests)

  gone : (o : Option Row) → is_gone o ≡ true → o ≡ None
  gone None h = refl
  gone (Some r) h = absurd (false≢true h)

  here : is_same_slot w.slot p ≡ true → is_gone w.row ≡ true → live (after (place w.slot w.row rows) ws) p ≡ false
  here same g = at (live (after (place w.slot w.row rows) ws) p) refl where
    at : (b : Bool) → live (after (place w.slot w.row rows) ws) p ≡ b → live (after (place w.slot w.row rows) ws) p ≡ false
    at false h = h
    at true h =
        let either = live_cases (place w.slot w.row rows) ws p fit.1 h in
        let slot = slot_same w.slot p same in
        let one : live (place w.slot w.row rows) p ≡ false = (λ i. live (place w.slot (gone w.row g i) rows) (sym slot i)) ∙ gone_there w.slot rows up in
        let two : brings ws p ≡ false = ap (brings ws) (sym slot) ∙ brings_none w.slot ws (not_behind w.slot ws behind.0) in
        absurd (false≢true (grind (arith, nat_tests)))

  by : (rising (place w.slot w.row rows) ≡ true → are_rising ws ≡ true → are_fitting ws ≡ true → deletes ws p ≡ true → live (after (place w.slot w.row rows) ws) p ≡ false)
      → (b : Bool) → deletes ws p ≡ b → live (after (place w.slot w.row rows) ws) p ≡ false
  by more true h = more (rising_place w.slot w.row rows fit.0 up) behind.1 fit.1 h
  by more false h = let parts : (is_same_slot w.slot p ≡ true) × (is_gone w.row ≡ true) = grind (arith, nat_tests) in here parts.0 parts.1

none_deleted : (rows : List Row) (ws : List Write) → ((p : Slot) → deletes ws p ≡ true → live rows p ≡ false) → (refs : List Slot) → list_all (live rows) refs ≡ true → list_any (deletes ws) refs ≡ false
none_deleted rows ws empty [] e = refl
none_deleted rows ws empty (p ∷ refs) e = by (λ k. none_deleted rows ws empty refs k) (deletes ws p) refl where
  parts : (live rows p ≡ true) × (list_all (live rows) refs ≡ true)
  parts = grind (arith, nat_tests)

  by : (list_all (live rows) refs ≡ true → list_any (deletes ws) refs ≡ false) → (b : Bool) → deletes ws p ≡ b → list_any (deletes ws) (p ∷ refs) ≡ false
  by more true h = absurd (false≢true (sym (empty p h) ∙ parts.0))
  by more false h = let rest = more parts.1 in grind (arith, nat_tests)

none_left : (rows some : List Row) (ws : List Write) → ((p : Slot) → deletes ws p ≡ true → live rows p ≡ false) → are_rooted rows some ≡ true → leaves some ws ≡ false
none_left rows [] ws empty e = refl
none_left rows (r ∷ some) ws empty e =
    let parts : (list_all (live rows) r.refs ≡ true) × (are_rooted rows some ≡ true) = grind (arith, nat_tests) in
    let one : is_left ws r ≡ false = none_deleted rows ws empty r.refs parts.0 in
    let two = none_left rows some ws empty parts.1 in
    grind (arith, nat_tests)

-- a COMMIT's two tests for parents are one
pub spared_lem : ParentsAreSpared
spared_lem rows ws up ups fits before = by (are_rooted (after rows ws) (after rows ws)) refl (breaks (after rows ws) ws) refl (leaves (after rows ws) ws) refl where
  by : (a : Bool) → are_rooted (after rows ws) (after rows ws) ≡ a → (b : Bool) → breaks (after rows ws) ws ≡ b → (c : Bool) → leaves (after rows ws) ws ≡ c
      → not (breaks (after rows ws) ws) && not (leaves (after rows ws) ws) ≡ are_rooted (after rows ws) (after rows ws)
  by true r b e c k =
      let one = unbroken (after rows ws) ws (written_stand (λ (x : Row). list_all (live (after rows ws)) x.refs) rows ws ups fits r) in
      let two = none_left (after rows ws) (after rows ws) ws (λ p h. emptied rows ws p up ups fits h) r in
      grind (arith, nat_tests)
  by false r false e false k = absurd (false≢true (sym r ∙ rooted_after rows ws fits before e k))
  by false r true e c k = grind (arith, nat_tests)
  by false r false e true k = grind (arith, nat_tests)
