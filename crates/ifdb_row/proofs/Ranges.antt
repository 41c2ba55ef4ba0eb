-- Ranges of keys among rising rows.
use Rattle.std.proofs.Common.{◌≡◌, ℕ, Bool, true, false, List, refl, arith, ◌&&◌, Some, None}
use Rattle.std.specs.Prelude.{not, nat_lt, ◌==◌, if◌then◌else◌}
use Rattle.std.specs.Ordering.{is_gt}
use Rattle.std.proofs.lemmas.Bool.Decides.{nat_tests}
use Rattle.ifdb_value.specs.declared.value.Value.{Value}
use Rattle.ifdb_row.specs.declared.slot.Slot.{Slot}
use Rattle.ifdb_row.specs.declared.row.Row.{Row}
use Rattle.ifdb_row.specs.declared.range.Side.{Side}
use Rattle.ifdb_row.specs.declared.range.Side.TheVariants as side
use Rattle.ifdb_row.specs.declared.range.Cut.{Cut}
use Rattle.ifdb_row.specs.declared.range.KeyRange.{KeyRange}
use Rattle.ifdb_row.specs.Slots.{key_cmp, slot_lt}
use Rattle.ifdb_row.specs.Fronts.{front_cmp}
use Rattle.ifdb_row.specs.Ranges.{is_before, is_below, is_slot_in, is_within, stands_before}
use Rattle.ifdb_row.proofs.Edges.{slot_lt_key, slot_lt_table}
use Rattle.ifdb_row.proofs.Fronts.{front_falls}

-- a key below one that stands before a cut stands before it too
pub cut_falls : (c : Cut) (j k : List Value) → is_gt (key_cmp j k) ≡ false → stands_before c k ≡ true → stands_before c j ≡ true
cut_falls c j k h e = by c.side e where
  by : (s : Side) → is_before s (front_cmp k c.values) ≡ true → is_before s (front_cmp j c.values) ≡ true
  by side.Before e = front_falls (is_before side.Before) refl refl j k c.values h e
  by side.Behind e = front_falls (is_before side.Behind) refl refl j k c.values h e

-- the slots before a cut of a table
abbrev pub is_before_cut : ℕ → Cut → Slot → Bool
is_before_cut t c s = if s.table == t then stands_before c s.key else nat_lt s.table t

pub cut_down : (t : ℕ) (c : Cut) (p q : Slot) → slot_lt p q ≡ true → is_before_cut t c q ≡ true → is_before_cut t c p ≡ true
cut_down t c p q h e = grind (arith, nat_tests, slot_lt_table p q h, slot_lt_key p q h, cut_falls c p.key q.key)

-- ---- the first rows of a range: what a search from its low cut on finds, as far as its high cut

module _ (t : ℕ) (x : KeyRange) where
  -- from the low cut on
  module _ (p : Row → Bool) (is : (r : Row) → p r ≡ is_before_cut t x.low r.slot) where
    pub first_same : (r : Row) → is_within t x None r ≡ (not (p r) && is_below t x r)
    first_same r = grind (arith, nat_tests, is r)

    pub first_down : (r s : Row) → slot_lt r.slot s.slot ≡ true → p r ≡ false → is_below t x s ≡ true → is_below t x r ≡ true
    first_down r s h e u = grind (arith, nat_tests, is r, slot_lt_table r.slot s.slot h, slot_lt_key r.slot s.slot h, cut_falls x.high r.slot.key s.slot.key)

  -- behind one of its slots
  module _ (a : Slot) (within : is_slot_in t x a ≡ true) where
    pub behind_same : (r : Row) → is_within t x (Some a) r ≡ (not (not (slot_lt a r.slot)) && is_below t x r)
    behind_same r = grind (arith, nat_tests, slot_lt_table a r.slot, slot_lt_key a r.slot, cut_falls x.low a.key r.slot.key)

    pub behind_down : (r s : Row) → slot_lt r.slot s.slot ≡ true → not (slot_lt a r.slot) ≡ false → is_below t x s ≡ true → is_below t x r ≡ true
    behind_down r s h e u = grind (arith, nat_tests, slot_lt_table a r.slot, slot_lt_table r.slot s.slot h, slot_lt_key r.slot s.slot h, cut_falls x.high r.slot.key s.slot.key)
