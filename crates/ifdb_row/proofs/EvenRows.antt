-- Rows in one list of values: how many there are, each of them, and the first and the others.
use Rattle.std.proofs.Common.{◌≡◌, ℕ, zero, suc, ◌+◌, ◌-◌, ◌*◌, ◌<◌, ◌≤◌, List, [], ◌∷◌, ◌∙◌, length, get_or, take, drop, refl, sym, ap, arith, Some}
use Rattle.std.specs.Prelude.{slice_get}
use Rattle.std.proofs.Math.Nat.{mul-le-mul_right, suc-mul}
use Rattle.std.proofs.lemmas.List.{drop-drop}
use Rattle.ifdb_value.specs.declared.value.Value.{Value}
use Rattle.ifdb_value.specs.Lists.{listed}
use Rattle.ifdb_row.specs.declared.slot.Slot.{Slot}
use Rattle.ifdb_row.specs.declared.even_run.Head.{Head}
use Rattle.ifdb_row.specs.Runs.{even_row, even_rows}

-- what lies behind one row and so many more
behind_rows : {X : Type 0} (n w : ℕ) (cs : List X) → drop (n * w) (drop w cs) ≡ drop (suc n * w) cs
behind_rows n w cs = let e : w + n * w ≡ suc n * w = omega (arith, suc-mul n w) in drop-drop (n * w) w cs ∙ ap (λ k. drop k cs) e

behind_one : {X : Type 0} (n : ℕ) (xs : List X) → drop n (drop 1 xs) ≡ drop (suc n) xs
behind_one n xs = let e : 1 + n ≡ suc n = omega arith in drop-drop n 1 xs ∙ ap (λ k. drop k xs) e

next_of : {X : Type 0} (i : ℕ) (xs : List X) → slice_get (drop 1 xs) i ≡ slice_get xs (suc i)
next_of i [] = refl
next_of i (x ∷ xs) = refl

module _ (k w : ℕ) where
  pub even_length : (ls : List Head) (rs : List (List Slot)) (cs : List Value) → length (even_rows k w ls rs cs) ≡ length ls
  even_length [] rs cs = refl
  even_length (l ∷ ls) rs cs = ap suc (even_length ls (drop 1 rs) (drop w cs))

  pub even_at : (i : ℕ) (ls : List Head) (rs : List (List Slot)) (cs : List Value) (l : Head) → i < length ls → l ≡ get_or ls i l
      → slice_get (even_rows k w ls rs cs) i ≡ Some (even_row k w l (listed (slice_get rs i)) (drop (i * w) cs))
  even_at i [] rs cs l lt e = absurd (omega arith)
  even_at zero (m ∷ ls) rs cs l lt e =
      let z : 0 ≡ zero * w = omega arith in
      ap (λ n. Some (even_row k w m (listed (slice_get rs 0)) (drop n cs))) z
      ∙ ap (λ x. Some (even_row k w x (listed (slice_get rs 0)) (drop (zero * w) cs))) (sym e)
  even_at (suc i) (m ∷ ls) rs cs l lt e =
      even_at i ls (drop 1 rs) (drop w cs) l (omega arith) e
      ∙ ap (λ o. Some (even_row k w l (listed o) (drop (i * w) (drop w cs)))) (next_of i rs)
      ∙ ap (λ c. Some (even_row k w l (listed (slice_get rs (suc i))) c)) (behind_rows i w cs)

  pub even_front : (n : ℕ) (ls : List Head) (rs : List (List Slot)) (cs : List Value) → even_rows k w (take n ls) rs cs ≡ take n (even_rows k w ls rs cs)
  even_front zero ls rs cs = refl
  even_front (suc n) [] rs cs = refl
  even_front (suc n) (l ∷ ls) rs cs = ap (λ rows. even_row k w l (listed (slice_get rs 0)) cs ∷ rows) (even_front n ls (drop 1 rs) (drop w cs))

  pub even_from : (n : ℕ) (ls : List Head) (rs : List (List Slot)) (cs : List Value) → even_rows k w (drop n ls) (drop n rs) (drop (n * w) cs) ≡ drop n (even_rows k w ls rs cs)
  even_from zero ls rs cs = let z : zero * w ≡ 0 = omega arith in ap (λ n. even_rows k w ls rs (drop n cs)) z
  even_from (suc n) [] rs cs = refl
  even_from (suc n) (l ∷ ls) rs cs =
      ap (λ r. even_rows k w (drop n ls) r (drop (suc n * w) cs)) (sym (behind_one n rs))
      ∙ ap (λ c. even_rows k w (drop n ls) (drop n (drop 1 rs)) c) (sym (behind_rows n w cs))
      ∙ even_from n ls (drop 1 rs) (drop w cs)

-- the values of a row at a place lie within those of all
pub row_within : (i n w c : ℕ) → i < n → n * w ≤ c → i * w + w ≤ c
row_within i n w c lt le = let m = mul-le-mul_right {m = suc i} {n = n} w (omega arith) in omega (arith, suc-mul i w)

pub front_within : (i n w c : ℕ) → i ≤ n → n * w ≤ c → i * w ≤ c
front_within i n w c lt le = let m = mul-le-mul_right {m = i} {n = n} w lt in omega arith

pub rest_within : (i n w c : ℕ) → i ≤ n → n * w ≤ c → (n - i) * w ≤ c - i * w
rest_within i n w c lt le = by (n - i) (omega arith) where
  by : (m : ℕ) → i + m ≡ n → m * w ≤ c - i * w
  by m e = let p : (i + m) * w ≤ c = front_within (i + m) n w c (omega arith) le in omega (arith, p)

-- the row that is read out of such a list
pub row_is : (k w : ℕ) (h : Head) (refs : List Slot) (cs cells key rest values : List Value) → cells ≡ cs → key ≡ take k cells → rest ≡ drop k cells → values ≡ take (w - k) rest
    → even_row k w h refs cs ≡ record { slot = record { table = h.table; key = key; label = h.label }; values = values; refs = refs }
row_is k w h refs cs cells key rest values a b c d =
    let keys : take k cs ≡ key = sym (b ∙ ap (take k) a) in
    let others : take (w - k) (drop k cs) ≡ values = sym (d ∙ ap (take (w - k)) (c ∙ ap (drop k) a)) in
    λ i. record { slot = record { table = h.table; key = keys i; label = h.label }; values = others i; refs = refs }
