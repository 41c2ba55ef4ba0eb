-- Rising writes, and their parts.
use Rattle.std.proofs.Common.{◌≡◌, ℕ, zero, suc, Bool, true, List, [], ◌∷◌, get_or, take, drop, refl, arith}
use Rattle.std.specs.List.{list_all}
use Rattle.std.specs.List.Sorted.{IsPartitionedBy}
use Rattle.std.proofs.lemmas.Bool.Decides.{nat_tests}
use Rattle.ifdb_row.specs.declared.slot.Slot.{Slot}
use Rattle.ifdb_row.specs.declared.write.Write.{Write}
use Rattle.ifdb_row.specs.Slots.{slot_lt}
use Rattle.ifdb_row.specs.Writes.{are_rising}
use Rattle.ifdb_row.proofs.SlotOrder.{slot_lt_trans}
use Rattle.ifdb_value.proofs.Lists.{all_at}

pub parted_writes : (s : Slot) (ws : List Write) → are_rising ws ≡ true → IsPartitionedBy (λ (w : Write). slot_lt w.slot s) ws
parted_writes s [] h i j d le lt e = absurd (omega arith)
parted_writes s (w ∷ ws) h zero zero d le lt e = e
parted_writes s (w ∷ ws) h zero (suc j) d le lt e = slot_lt_trans w.slot (get_or ws j d).slot s (all_at (λ x. slot_lt w.slot x.slot) ws j d (grind (arith, nat_tests)) (omega arith)) e
parted_writes s (w ∷ ws) h (suc i) zero d le lt e = absurd (omega arith)
parted_writes s (w ∷ ws) h (suc i) (suc j) d le lt e = parted_writes s ws (grind (arith, nat_tests)) i j d (omega arith) (omega arith) e

-- parts of rising writes rise, and those of fitting writes fit
pub all_take : {X : Type 0} (p : X → Bool) (n : ℕ) (xs : List X) → list_all p xs ≡ true → list_all p (take n xs) ≡ true
all_take p zero xs h = refl
all_take p (suc n) [] h = refl
all_take p (suc n) (x ∷ xs) h = grind (arith, nat_tests, all_take p n xs)

pub all_drop : {X : Type 0} (p : X → Bool) (n : ℕ) (xs : List X) → list_all p xs ≡ true → list_all p (drop n xs) ≡ true
all_drop p zero xs h = h
all_drop p (suc n) [] h = refl
all_drop p (suc n) (x ∷ xs) h = grind (arith, nat_tests, all_drop p n xs)

pub rising_take : (n : ℕ) (ws : List Write) → are_rising ws ≡ true → are_rising (take n ws) ≡ true
rising_take zero ws h = refl
rising_take (suc n) [] h = refl
rising_take (suc n) (w ∷ ws) h = grind (arith, nat_tests, rising_take n ws, all_take (λ (v : Write). slot_lt w.slot v.slot) n ws)
