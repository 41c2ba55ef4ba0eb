-- Parts of a list by where they begin and end.
use Rattle.std.proofs.Common.{◌≡◌, ℕ, ◌+◌, ◌-◌, ◌<◌, ◌≤◌, List, [], ◌∷◌, ◌++◌, length, take, drop, ap, ◌∙◌, arith}
use Rattle.std.specs.Prelude.{slice_range, slice_index}
use Rattle.std.proofs.Math.Seq.{take-add}
use Rattle.std.proofs.lemmas.List.{take-append-drop, drop-drop, length-take, length-drop, drop_more, drop-take}

pub length-range : (xs : List ℕ) (i j : ℕ) → j ≤ length xs → length (slice_range xs i j) ≡ j - i
length-range xs i j le = omega (arith, length-take (j - i) (drop i xs), length-drop i xs)

-- a range is the range up to some place and the range from there
pub range_split : (xs : List ℕ) (i k j : ℕ) → i ≤ k → k ≤ j → slice_range xs i j ≡ slice_range xs i k ++ slice_range xs k j
range_split xs i k j low high =
    let size : j - i ≡ (k - i) + (j - k) = omega arith in
    let place : i + (k - i) ≡ k = omega arith in
    let behind = drop-drop (k - i) i xs in
    let parts = take-add (k - i) (j - k) (drop i xs) in
    cc

-- the bytes of a range from its n-th on
pub drop-range : (xs : List ℕ) (i j n : ℕ) → i + n ≤ j → drop n (slice_range xs i j) ≡ slice_range xs (i + n) j
drop-range xs i j n le =
    let size : j - i ≡ n + (j - (i + n)) = omega arith in
    ap (λ k. drop n (take k (drop i xs))) size ∙ drop-take n (j - (i + n)) (drop i xs) ∙ ap (take (j - (i + n))) (drop-drop n i xs)

-- a range up to its n-th byte, that byte, and the rest
pub range_at : (xs : List ℕ) (i j n byte : ℕ) → i ≤ j → j ≤ length xs → n < length (slice_range xs i j) → slice_index (slice_range xs i j) n ≡ byte
    → slice_range xs i j ≡ take n (slice_range xs i j) ++ (byte ∷ slice_range xs (i + (n + 1)) j)
range_at xs i j n byte ij le lt at =
    let size = length-range xs i j le in
    let whole = take-append-drop n (slice_range xs i j) in
    let more = drop_more (slice_range xs i j) n 0 lt in
    let rest = drop-range xs i j (n + 1) (omega arith) in
    cc

pub range-empty : (xs : List ℕ) (i : ℕ) → slice_range xs i i ≡ []
range-empty xs i = let none : i - i ≡ 0 = omega arith in ap (λ k. take k (drop i xs)) none
