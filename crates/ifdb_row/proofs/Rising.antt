-- Rising rows: tests that part them, and their parts.
use Rattle.std.proofs.Common.{◌≡◌, ℕ, Bool, true, false, List, [], ◌∷◌, ◌++◌, take, drop, refl, sym, ap, ◌∙◌, arith}
use Rattle.std.specs.Prelude.{not}
use Rattle.std.specs.List.{list_all}
use Rattle.std.proofs.lemmas.Bool.{false≢true}
use Rattle.std.proofs.lemmas.Bool.Decides.{nat_tests}
use Rattle.std.proofs.lemmas.List.{take-append-drop}
use Rattle.ifdb_row.specs.declared.slot.Slot.{Slot}
use Rattle.ifdb_row.specs.declared.row.Row.{Row}
use Rattle.ifdb_row.specs.Slots.{is_same_slot, slot_lt}
use Rattle.ifdb_row.specs.Content.{rising}
use Rattle.ifdb_row.specs.Reach.{is_parted}
use Rattle.ifdb_row.proofs.SlotOrder.{slot_same, slot_lt_trans, slot_above, slot_lt_itself}
use Rattle.std.proofs.lemmas.List.Folds.{list_all-append}
use Rattle.ifdb_value.proofs.Lists.{all_wider}

-- of two slots only one stands before the other
pub lt_not_same : (p q : Slot) → slot_lt p q ≡ true → is_same_slot q p ≡ false
lt_not_same p q h = by (is_same_slot q p) refl where
  by : (b : Bool) → is_same_slot q p ≡ b → is_same_slot q p ≡ false
  by false e = e
  by true e = absurd (false≢true (sym (slot_lt_itself p) ∙ (ap (slot_lt p) (sym (slot_same q p e)) ∙ h)))

pub lt_not_back : (p q : Slot) → slot_lt p q ≡ true → slot_lt q p ≡ false
lt_not_back p q h = by (slot_lt q p) refl where
  by : (b : Bool) → slot_lt q p ≡ b → slot_lt q p ≡ false
  by false e = e
  by true e = absurd (false≢true (sym (slot_lt_itself p) ∙ slot_lt_trans p q p h e))

pub lt_from : (p q : Slot) → is_same_slot p q ≡ false → slot_lt q p ≡ false → slot_lt p q ≡ true
lt_from p q a b = go (slot_lt p q) refl where
  go : (c : Bool) → slot_lt p q ≡ c → slot_lt p q ≡ true
  go true u = u
  go false u = absurd (false≢true (sym b ∙ slot_above p q a u))

-- a test that holds of each slot before one of which it holds
abbrev pub Falls : (Slot → Bool) → Type 0
Falls t = (p q : Slot) → slot_lt p q ≡ true → t q ≡ true → t p ≡ true

-- it parts rising rows
pub parted : (t : Slot → Bool) → Falls t → (rows : List Row) → rising rows ≡ true → is_parted (λ (r : Row). t r.slot) rows ≡ true
parted t f [] h = refl
parted t f (r ∷ rows) h = by (parted t f rows) (t r.slot) refl where
  none : t r.slot ≡ false → list_all (λ (x : Row). not (t x.slot)) rows ≡ true
  none e = all_wider (λ (x : Row). slot_lt r.slot x.slot) (λ (x : Row). not (t x.slot)) rows (λ x k. grind (arith, nat_tests, f r.slot x.slot k)) (grind (arith, nat_tests))

  by : (rising rows ≡ true → is_parted (λ (x : Row). t x.slot) rows ≡ true) → (b : Bool) → t r.slot ≡ b → is_parted (λ (x : Row). t x.slot) (r ∷ rows) ≡ true
  by more true e = grind (arith, nat_tests, more)
  by more false e = grind (arith, nat_tests, none e)

pub parted_at : (s : Slot) (rows : List Row) → rising rows ≡ true → is_parted (λ (r : Row). slot_lt r.slot s) rows ≡ true
parted_at s rows h = parted (λ p. slot_lt p s) (λ p q a b. slot_lt_trans p q s a b) rows h

-- two parts of rising rows rise, and one stands before the other
pub rising_front : (xs ys : List Row) → rising (xs ++ ys) ≡ true → rising xs ≡ true
rising_front [] ys h = refl
rising_front (x ∷ xs) ys h = grind (arith, nat_tests, rising_front xs ys, list_all-append (λ (y : Row). slot_lt x.slot y.slot) xs ys)

pub rising_back : (xs ys : List Row) → rising (xs ++ ys) ≡ true → rising ys ≡ true
rising_back [] ys h = h
rising_back (x ∷ xs) ys h = grind (arith, nat_tests, rising_back xs ys)

pub rising_between : (xs : List Row) (y : Row) (ys : List Row) → rising (xs ++ y ∷ ys) ≡ true → list_all (λ (x : Row). slot_lt x.slot y.slot) xs ≡ true
rising_between [] y ys h = refl
rising_between (x ∷ xs) y ys h = grind (arith, nat_tests, rising_between xs y ys, list_all-append (λ (z : Row). slot_lt x.slot z.slot) xs (y ∷ ys))

pub rising_part : (n k : ℕ) (rows : List Row) → rising rows ≡ true → rising (take k (drop n rows)) ≡ true
rising_part n k rows h =
    let behind = rising_back (take n rows) (drop n rows) (ap rising (take-append-drop n rows) ∙ h) in
    rising_front (take k (drop n rows)) (drop k (drop n rows)) (ap rising (take-append-drop k (drop n rows)) ∙ behind)
