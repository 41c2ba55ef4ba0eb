-- Rows rise exactly where each stands before the next one.
use Rattle.std.proofs.Common.{◌≡◌, ℕ, ◌+◌, ◌-◌, ◌<◌, ◌≤◌, Bool, true, false, List, [], ◌∷◌, ◌++◌, length, get_or, take, drop, refl, sym, ap, ◌∙◌, arith}
use Rattle.std.specs.List.{list_all}
use Rattle.std.proofs.lemmas.Bool.Decides.{nat_tests}
use Rattle.std.proofs.lemmas.Grind.{common_steps}
use Rattle.std.proofs.lemmas.List.{take-append-drop}
use Rattle.std.proofs.lemmas.List.Folds.{list_all-append}
use Rattle.ifdb_value.proofs.Lists.{all_wider}
use Rattle.ifdb_row.specs.declared.row.Row.{Row}
use Rattle.ifdb_row.specs.Slots.{slot_lt}
use Rattle.ifdb_row.specs.Content.{rising}
use Rattle.ifdb_row.proofs.SlotOrder.{slot_lt_trans}
use Rattle.ifdb_row.proofs.Rising.{rising_between, rising_front}

rising_push : (xs : List Row) (y : Row) → rising xs ≡ true → list_all (λ (x : Row). slot_lt x.slot y.slot) xs ≡ true → rising (xs ++ y ∷ []) ≡ true
rising_push [] y h k = refl
rising_push (x ∷ xs) y h k = grind (arith, nat_tests, list_all-append (λ (z : Row). slot_lt x.slot z.slot) xs (y ∷ []), rising_push xs y)

-- so they go on rising behind the last one
pub rises_on : (xs : List Row) (l y : Row) → rising (xs ++ l ∷ []) ≡ true → slot_lt l.slot y.slot ≡ true → rising ((xs ++ l ∷ []) ++ y ∷ []) ≡ true
rises_on xs l y h k =
    let below = all_wider (λ (x : Row). slot_lt x.slot l.slot) (λ (x : Row). slot_lt x.slot y.slot) xs (λ x e. slot_lt_trans x.slot l.slot y.slot e k) (rising_between xs l [] h) in
    rising_push (xs ++ l ∷ []) y h (grind (arith, nat_tests, list_all-append (λ (x : Row). slot_lt x.slot y.slot) xs (l ∷ []), below))

-- the rows up to a place and its neighbour before
up_to : (rows : List Row) (i : ℕ) (l y : Row) → 1 ≤ i → i < length rows → l ≡ get_or rows (i - 1) l → y ≡ get_or rows i y → take (i + 1) rows ≡ (take (i - 1) rows ++ l ∷ []) ++ y ∷ []
up_to rows i l y p h e f =
    let back : (i - 1) + 1 ≡ i = omega arith in
    let longer : take (i + 1) rows ≡ take i rows ++ y ∷ [] = grind (arith, common_steps) in
    let last : take ((i - 1) + 1) rows ≡ take (i - 1) rows ++ l ∷ [] = grind (arith, common_steps) in
    longer ∙ ap (λ xs. xs ++ y ∷ []) (ap (λ n. take n rows) (sym back) ∙ last)

-- one row more
pub one_more : (rows : List Row) (i : ℕ) (l y : Row) → 1 ≤ i → i < length rows → l ≡ get_or rows (i - 1) l → y ≡ get_or rows i y → rising (take i rows) ≡ true → slot_lt l.slot y.slot ≡ true → rising (take (i + 1) rows) ≡ true
one_more rows i l y p h e f r k =
    let back : (i - 1) + 1 ≡ i = omega arith in
    let last : take ((i - 1) + 1) rows ≡ take (i - 1) rows ++ l ∷ [] = grind (arith, common_steps) in
    let here : take i rows ≡ take (i - 1) rows ++ l ∷ [] = ap (λ n. take n rows) (sym back) ∙ last in
    ap rising (up_to rows i l y p h e f) ∙ rises_on (take (i - 1) rows) l y (ap rising (sym here) ∙ r) k

-- where one row doesn't stand before the next, the rows don't rise
pub falls_at : (rows : List Row) (i : ℕ) (l y : Row) → 1 ≤ i → i < length rows → l ≡ get_or rows (i - 1) l → y ≡ get_or rows i y → slot_lt l.slot y.slot ≡ false → rising rows ≡ false
falls_at rows i l y p h e f k = by (rising rows) refl where
  by : (b : Bool) → rising rows ≡ b → rising rows ≡ false
  by false r = r
  by true r =
      let front = rising_front (take (i + 1) rows) (drop (i + 1) rows) (ap rising (take-append-drop (i + 1) rows) ∙ r) in
      let before = rising_between (take (i - 1) rows ++ l ∷ []) y [] (ap rising (sym (up_to rows i l y p h e f)) ∙ front) in
      grind (arith, nat_tests, list_all-append (λ (x : Row). slot_lt x.slot y.slot) (take (i - 1) rows) (l ∷ []), before)
