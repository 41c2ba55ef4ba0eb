-- Where links stand, and to which child each leads.
use Rattle.std.proofs.Common.{◌≡◌, ℕ, ◌<◌, ◌+◌, ◌*◌, true, sym, ap, ◌∙◌, arith}
use Rattle.std.specs.Prelude.{◌/◌, ◌%◌}
use Rattle.std.specs.Ordering.{nat_cmp, is_lt, ordering_then}
use Rattle.std.proofs.lemmas.Bool.Decides.{nat_tests}
use Rattle.ifdb_row.specs.declared.slot.Slot.{Slot}
use Rattle.ifdb_row.specs.Slots.{is_same_slot, slot_cmp, slot_lt, key_cmp, label_cmp}
use Rattle.ifdb_row.proofs.SlotOrder.{slot_same}
use Rattle.ifdb_store.specs.Links.{is_near, is_from, link_slot, child_slot}

rest_of : (a b : ℕ) → b < 4294967296 → (a * 4294967296 + b) % 4294967296 ≡ b
rest_of a b lt = omega arith

part_of : (a b : ℕ) → b < 4294967296 → (a * 4294967296 + b) / 4294967296 ≡ a
part_of a b lt = omega arith

whole_of : (n a : ℕ) → n / 4294967296 ≡ a → a * 4294967296 + n % 4294967296 ≡ n
whole_of n a e = omega arith

below : (n : ℕ) → n % 4294967296 < 4294967296
below n = omega arith

-- a link leads to its child, and is from its print
pub child_back : (print : ℕ) (s : Slot) → is_near s ≡ true → child_slot (link_slot print s) ≡ s
child_back print s h =
    let e = rest_of print s.table (grind (arith, nat_tests)) in
    λ i. record { table = e i; key = s.key; label = s.label }

pub from_print : (print : ℕ) (s : Slot) → is_near s ≡ true → is_from print (link_slot print s) ≡ true
from_print print s h = let e = part_of print s.table (grind (arith, nat_tests)) in grind (arith, nat_tests)

-- a slot from a print is that of its link
pub link_back : (print : ℕ) (s : Slot) → is_from print s ≡ true → link_slot print (child_slot s) ≡ s
link_back print s h =
    let e = whole_of s.table print (grind (arith, nat_tests)) in
    λ i. record { table = e i; key = s.key; label = s.label }

pub child_near : (s : Slot) → is_near (child_slot s) ≡ true
child_near s = let e = below s.table in grind (arith, nat_tests)

-- links from one print stand as their children do
shifted : (a b c : ℕ) → nat_cmp (a + b) (a + c) ≡ nat_cmp b c
shifted a b c = grind (arith, nat_tests)

pub link_lt : (print : ℕ) (s c : Slot) → slot_lt (link_slot print s) (link_slot print c) ≡ slot_lt s c
unfolding slot_cmp
link_lt print s c = ap (λ o. is_lt (ordering_then o (ordering_then (key_cmp s.key c.key) (label_cmp s.label c.label)))) (shifted (print * 4294967296) s.table c.table)

-- links to different children stand in different slots
pub same_child : (print other : ℕ) (s c : Slot) → is_near s ≡ true → is_near c ≡ true → is_same_slot (link_slot print s) (link_slot other c) ≡ true → s ≡ c
same_child print other s c h k e = sym (child_back print s h) ∙ (ap child_slot (slot_same (link_slot print s) (link_slot other c) e) ∙ child_back other c k)
