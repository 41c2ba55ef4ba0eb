-- Writes that rise by their slots, by looking at neighbours alone.
use Rattle.std.proofs.Common.{◌≡◌, ℕ, suc, ◌+◌, ◌-◌, ◌<◌, ◌≤◌, Bool, true, false, List, [], ◌∷◌, ◌++◌, length, drop, get_or, refl, sym, ap, ◌∙◌, arith}
use Rattle.std.specs.List.{list_all}
use Rattle.std.proofs.Math.Seq.{drop-cons}
use Rattle.std.proofs.lemmas.Bool.Decides.{nat_tests}
use Rattle.std.proofs.lemmas.List.{length-drop}
use Rattle.ifdb_value.proofs.Lists.{all_wider}
use Rattle.ifdb_row.specs.declared.write.Write.{Write}
use Rattle.ifdb_row.specs.Slots.{slot_lt}
use Rattle.ifdb_row.specs.Writes.{are_rising, are_fitting, is_fitting}
use Rattle.ifdb_row.proofs.SlotOrder.{slot_lt_trans}

pub fits_more : (ws : List Write) (w : Write) → are_fitting ws ≡ true → is_fitting w.slot w.row ≡ true → are_fitting (ws ++ w ∷ []) ≡ true
fits_more [] w all fits = grind (arith, nat_tests)
fits_more (v ∷ ws) w all fits = grind (arith, nat_tests, fits_more ws w)

-- behind a write of an earlier slot writes that rise go on rising
rises_on : (v w : Write) (ws : List Write) → slot_lt v.slot w.slot ≡ true → are_rising (v ∷ w ∷ ws) ≡ are_rising (w ∷ ws)
rises_on v w ws lt = by (list_all (λ (u : Write). slot_lt w.slot u.slot) ws) refl where
  by : (b : Bool) → list_all (λ (u : Write). slot_lt w.slot u.slot) ws ≡ b → are_rising (v ∷ w ∷ ws) ≡ are_rising (w ∷ ws)
  by true e =
      let all : list_all (λ (u : Write). slot_lt v.slot u.slot) ws ≡ true = all_wider (λ (u : Write). slot_lt w.slot u.slot) (λ (u : Write). slot_lt v.slot u.slot) ws (λ u i. slot_lt_trans v.slot w.slot u.slot lt i) e in
      grind (arith, nat_tests)
  by false e = grind (arith, nat_tests)

-- a write whose slot isn't before that of the next one
falls : (v w : Write) (ws : List Write) → slot_lt v.slot w.slot ≡ false → are_rising (v ∷ w ∷ ws) ≡ false
falls v w ws e = grind (arith, nat_tests)

at_two : (ws : List Write) (i : ℕ) (a b : Write) → 1 ≤ i → i < length ws → a ≡ get_or ws (i - 1) a → b ≡ get_or ws i b → drop (i - 1) ws ≡ a ∷ b ∷ drop (i + 1) ws
at_two ws i a b ge lt here there =
    let k : suc (i - 1) ≡ i = omega arith in
    let l : suc i ≡ i + 1 = omega arith in
    let one : drop (i - 1) ws ≡ a ∷ drop (suc (i - 1)) ws = drop-cons ws (i - 1) a (omega arith) ∙ ap (λ x. x ∷ drop (suc (i - 1)) ws) (sym here) in
    let two : drop i ws ≡ b ∷ drop (suc i) ws = drop-cons ws i b lt ∙ ap (λ x. x ∷ drop (suc i) ws) (sym there) in
    one ∙ ap (λ xs. a ∷ xs) (ap (λ n. drop n ws) k ∙ two ∙ ap (λ n. b ∷ drop n ws) l)

at_one : (ws : List Write) (i : ℕ) (b : Write) → i < length ws → b ≡ get_or ws i b → drop i ws ≡ b ∷ drop (i + 1) ws
at_one ws i b lt there =
    let l : suc i ≡ i + 1 = omega arith in
    drop-cons ws i b lt ∙ ap (λ x. x ∷ drop (suc i) ws) (sym there) ∙ ap (λ n. b ∷ drop n ws) l

pub goes_on : (ws : List Write) (i : ℕ) (a b : Write) → 1 ≤ i → i < length ws → a ≡ get_or ws (i - 1) a → b ≡ get_or ws i b → slot_lt a.slot b.slot ≡ true
    → are_rising (drop (i - 1) ws) ≡ are_rising ws → are_rising (drop (i + 1 - 1) ws) ≡ are_rising ws
goes_on ws i a b ge lt here there less so_far =
    let k : i + 1 - 1 ≡ i = omega arith in
    let next : are_rising (drop i ws) ≡ are_rising (drop (i - 1) ws) =
    ap are_rising (at_one ws i b lt there) ∙ sym (ap are_rising (at_two ws i a b ge lt here there) ∙ rises_on a b (drop (i + 1) ws) less) in
    ap (λ n. are_rising (drop n ws)) k ∙ next ∙ so_far

pub stops : (ws : List Write) (i : ℕ) (a b : Write) → 1 ≤ i → i < length ws → a ≡ get_or ws (i - 1) a → b ≡ get_or ws i b → slot_lt a.slot b.slot ≡ false
    → are_rising (drop (i - 1) ws) ≡ are_rising ws → false ≡ are_rising ws
stops ws i a b ge lt here there test so_far = sym (falls a b (drop (i + 1) ws) test) ∙ sym (ap are_rising (at_two ws i a b ge lt here there)) ∙ so_far

one_left : (ws : List Write) → length ws ≤ 1 → are_rising ws ≡ true
one_left [] h = refl
one_left (w ∷ []) h = refl
one_left (w ∷ v ∷ ws) h = absurd (omega arith)

pub ends : (ws : List Write) (i : ℕ) → length ws ≤ i → are_rising (drop (i - 1) ws) ≡ are_rising ws → true ≡ are_rising ws
ends ws i le so_far = sym (one_left (drop (i - 1) ws) (omega (arith, length-drop (i - 1) ws))) ∙ so_far
