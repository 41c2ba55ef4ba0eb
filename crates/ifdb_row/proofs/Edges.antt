-- The order of slots in parts, and edges: each slot before one that stands before an edge stands before it too.
use Rattle.std.proofs.Common.{◌≡◌, ◌≤◌, true, false, List, ◌∙◌, refl, ap, arith, Ordering}
use Rattle.std.specs.Prelude.{not}
use Rattle.std.specs.declared.cmp.Ordering.TheVariants.{Less, Equal, Greater}
use Rattle.std.specs.Ordering.{is_lt, is_le, is_gt, ordering_then}
use Rattle.std.specs.Cmp.{IsTotalOrder}
use Rattle.std.proofs.lemmas.Bool.Decides.{nat_tests}
use Rattle.std.proofs.lemmas.Cmp.{lists_total}
use Rattle.ifdb_value.specs.declared.value.Value.{Value}
use Rattle.ifdb_row.specs.declared.slot.Slot.{Slot}
use Rattle.ifdb_row.specs.Slots.{key_cmp, label_cmp, slot_cmp, slot_lt}
use Rattle.ifdb_value.proofs.ValueOrder.{value_total}
use Rattle.ifdb_row.proofs.SlotOrder.{slot_lt_trans}
use Rattle.ifdb_row.specs.declared.edge.Edge.{Edge}
use Rattle.ifdb_row.specs.declared.edge.Edge.TheVariants.{Table, Key, Past, At, Behind}
use Rattle.ifdb_row.specs.Edges.{lies_before, slot_at}
use Rattle.ifdb_row.proofs.Rising.{Falls}
use Rattle.ifdb_row.proofs.Fronts.{front_falls}

pub key_total : IsTotalOrder key_cmp
key_total = lists_total value_total

lt_Less : (o : Ordering) → is_lt o ≡ true → o ≡ Less
lt_Less Less e = refl
lt_Less Equal e = cc
lt_Less Greater e = cc

at_most_lt : (j k m : List Value) (o : Ordering) → key_cmp j k ≡ o → is_gt o ≡ false → is_lt (key_cmp k m) ≡ true → is_lt (key_cmp j m) ≡ true
at_most_lt j k m Less e g h = ap is_lt (key_total.trans j k m e (lt_Less (key_cmp k m) h))
at_most_lt j k m Equal e g h = ap is_lt (key_total.congr j k m e) ∙ h
at_most_lt j k m Greater e g h = cc

then_gt : (o u : Ordering) → is_lt (ordering_then o u) ≡ true → is_gt o ≡ false
then_gt Less u h = refl
then_gt Equal u h = refl
then_gt Greater u h = cc

pub slot_lt_table : (p q : Slot) → slot_lt p q ≡ true → p.table ≤ q.table
unfolding slot_cmp
slot_lt_table p q h = grind (arith, nat_tests)

pub slot_lt_keys : (p q : Slot) → slot_lt p q ≡ true → p.table ≡ q.table → is_lt (ordering_then (key_cmp p.key q.key) (label_cmp p.label q.label)) ≡ true
unfolding slot_cmp
slot_lt_keys p q h e = grind (arith, nat_tests)

pub slot_lt_key : (p q : Slot) → slot_lt p q ≡ true → p.table ≡ q.table → is_gt (key_cmp p.key q.key) ≡ false
slot_lt_key p q h e = then_gt (key_cmp p.key q.key) (label_cmp p.label q.label) (slot_lt_keys p q h e)

pub before_down : (slot p q : Slot) → slot_lt p q ≡ true → not (slot_lt slot q) ≡ true → not (slot_lt slot p) ≡ true
before_down slot p q h k = grind (arith, nat_tests, slot_lt_trans slot p q)

pub edge_falls : (e : Edge) → Falls (lies_before e)
edge_falls (Table t) p q h k = let l = slot_lt_table p q h in grind (arith, nat_tests)
edge_falls (Key t m) p q h k = grind (arith, nat_tests, slot_lt_table p q h, slot_lt_key p q h, at_most_lt p.key q.key m.now (key_cmp p.key q.key) refl)
edge_falls (Past t m) p q h k = grind (arith, nat_tests, slot_lt_table p q h, slot_lt_key p q h, front_falls is_le refl refl p.key q.key m.now)
edge_falls (At t m l) p q h k = slot_lt_trans p q (slot_at t m.now l.now) h k
edge_falls (Behind t m l) p q h k = before_down (slot_at t m.now l.now) p q h k
