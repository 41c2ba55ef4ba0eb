-- Walks over the rows that pass a test, each found behind the slot of the one before.
use Rattle.std.proofs.Common.{◌≡◌, Bool, true, false, List, [], ◌∷◌, ◌∙◌, length, ◌<◌, refl, ap, arith, Some, None, Option, ◌&&◌}
use Rattle.std.specs.Prelude.{find, filter}
use Rattle.std.specs.List.{list_all}
use Rattle.std.proofs.lemmas.Bool.Decides.{nat_tests}
use Rattle.ifdb_value.proofs.Lists.{filter_same_on}
use Rattle.ifdb_row.specs.declared.slot.Slot.{Slot}
use Rattle.ifdb_row.specs.declared.row.Row.{Row}
use Rattle.ifdb_row.specs.Slots.{slot_lt}
use Rattle.ifdb_row.specs.Content.{rising}
use Rattle.ifdb_row.specs.Questions.{is_past}
use Rattle.ifdb_row.proofs.SlotOrder.{slot_lt_trans, slot_lt_itself}
use Rattle.ifdb_row.proofs.Rising.{lt_not_back}
use Rattle.ifdb_row.proofs.KeyRows.{found_all}

past_more : (after : Option Slot) (p q : Slot) → is_past after p ≡ true → slot_lt p q ≡ true → is_past after q ≡ true
past_more None p q h k = refl
past_more (Some a) p q h k = slot_lt_trans a p q h k

pub none_left : (p : Row → Bool) (rows : List Row) → find p rows ≡ None → filter p rows ≡ []
none_left p [] e = refl
none_left p (r ∷ rows) e = grind (arith, nat_tests, none_left p rows)

module _ (t : Row → Bool) where
  -- the row passes, and stands behind the slot
  abbrev pub is_next : Option Slot → Row → Bool
  is_next after r = t r && is_past after r.slot

  behind_one : (after : Option Slot) (r : Row) (rows : List Row) → is_next after r ≡ true → list_all (λ (x : Row). slot_lt r.slot x.slot) rows ≡ true
      → filter (is_next after) rows ≡ filter (is_next (Some r.slot)) rows
  behind_one after r rows h a = filter_same_on (λ (x : Row). slot_lt r.slot x.slot) (is_next after) (is_next (Some r.slot)) rows a
      (λ x k. grind (arith, nat_tests, past_more after r.slot x.slot))

  -- behind the first row that passes stand those that pass behind its slot
  pub next_of : (after : Option Slot) (rows : List Row) (x : Row) → rising rows ≡ true → find (is_next after) rows ≡ Some x
      → filter (is_next after) rows ≡ x ∷ filter (is_next (Some x.slot)) rows
  next_of after [] x h e = cc
  next_of after (r ∷ rows) x h e = by (next_of after rows x) (is_next after r) refl where
    by : (rising rows ≡ true → find (is_next after) rows ≡ Some x → filter (is_next after) rows ≡ x ∷ filter (is_next (Some x.slot)) rows)
        → (b : Bool) → is_next after r ≡ b → filter (is_next after) (r ∷ rows) ≡ x ∷ filter (is_next (Some x.slot)) (r ∷ rows)
    by more true k =
        let same : r ≡ x = grind (arith, nat_tests) in
        let one : filter (is_next after) (r ∷ rows) ≡ r ∷ filter (is_next (Some r.slot)) (r ∷ rows) = grind (arith, nat_tests, behind_one after r rows k, slot_lt_itself r.slot) in
        one ∙ ap (λ (y : Row). y ∷ filter (is_next (Some y.slot)) (r ∷ rows)) same
    by more false k =
        let there : find (is_next after) rows ≡ Some x = grind (arith, nat_tests) in
        let up = found_all (λ (y : Row). slot_lt r.slot y.slot) (is_next after) rows x there (grind (arith, nat_tests)) in
        let out = lt_not_back r.slot x.slot up in
        grind (arith, nat_tests, more)

  -- so fewer are left
  pub fewer : (after : Option Slot) (rows : List Row) (x : Row) → rising rows ≡ true → find (is_next after) rows ≡ Some x
      → length (filter (is_next (Some x.slot)) rows) < length (filter (is_next after) rows)
  fewer after rows x h e = let k = ap length (next_of after rows x h e) in grind (arith, nat_tests)

  -- a look-up among those that pass
  find_among : (p : Row → Bool) (rows : List Row) → find (λ (r : Row). p r && t r) rows ≡ find p (filter (is_next None) rows)
  find_among p [] = refl
  find_among p (r ∷ rows) = grind (arith, nat_tests, find_among p rows)

  -- ---- steps of a walk that looks for the first that passes another test too
  module _ (p : Row → Bool) (after : Option Slot) (rows : List Row) where
    pub find_here : (x : Row) → rising rows ≡ true → find (is_next after) rows ≡ Some x → find p (filter (is_next after) rows) ≡ find p (filter (is_next None) rows) → p x ≡ true
        → Some x ≡ find (λ (r : Row). p r && t r) rows
    find_here x h e i k = let n = next_of after rows x h e in let f = find_among p rows in let g = ap (find p) n in grind (arith, nat_tests)

    pub find_on : (x : Row) → rising rows ≡ true → find (is_next after) rows ≡ Some x → find p (filter (is_next after) rows) ≡ find p (filter (is_next None) rows) → p x ≡ false
        → find p (filter (is_next (Some x.slot)) rows) ≡ find p (filter (is_next None) rows)
    find_on x h e i k = let n = ap (find p) (next_of after rows x h e) in grind (arith, nat_tests)

    pub find_none : find (is_next after) rows ≡ None → find p (filter (is_next after) rows) ≡ find p (filter (is_next None) rows)
        → None ≡ find (λ (r : Row). p r && t r) rows
    find_none e i = let n = ap (find p) (none_left (is_next after) rows e) in let f = find_among p rows in grind (arith, nat_tests)
