-- Bytes that one byte takes the place of, range by range.
use Rattle.std.proofs.Common.{◌≡◌, inl, inr, ℕ, zero, suc, ◌+◌, ◌-◌, ◌<◌, ◌≤◌, Bool, true, List, [], ◌∷◌, ◌++◌, length, take, drop, get_or, refl, sym, ap, ◌∙◌, arith}
use Rattle.std.specs.Prelude.{replicate, if◌then◌else◌}
use Rattle.std.proofs.lemmas.List.{length-take, get_or_append_left, get_or-append_right, ext_get_or, length-replicate, get_or-replicate}
use Rattle.std.proofs.lemmas.Bool.{cases_lt}
use Rattle.std.proofs.lemmas.Bool.Decides.{nat_tests}
use Rattle.ifdb_disk.specs.Images.{Range, Shown, IsImage, is_loose, overwritten, filled_from, filled}
use Rattle.ifdb_disk.specs.Present.{length-overwritten, overwritten_before, overwritten_after}

pub length-filled_from : (i : ℕ) (loose : List Range) (fill : ℕ) (bytes : List ℕ) → length (filled_from i loose fill bytes) ≡ length bytes
length-filled_from i loose fill [] = refl
length-filled_from i loose fill (b ∷ bytes) = ap suc (length-filled_from (i + 1) loose fill bytes)

pub get_or-filled_from : (i : ℕ) (loose : List Range) (fill : ℕ) (bytes : List ℕ) (k : ℕ) → k < length bytes
    → get_or (filled_from i loose fill bytes) k 0 ≡ (if is_loose loose (i + k) then fill else get_or bytes k 0)
get_or-filled_from i loose fill [] k lt = absurd (omega (arith, lt))
get_or-filled_from i loose fill (b ∷ bytes) zero lt = let same : i ≡ i + 0 = omega arith in ap (λ n. if is_loose loose n then fill else b) same
get_or-filled_from i loose fill (b ∷ bytes) (suc k) lt =
    let same : i + 1 + k ≡ i + suc k = omega arith in
    get_or-filled_from (i + 1) loose fill bytes k (omega (arith, lt)) ∙ ap (λ n. if is_loose loose n then fill else get_or bytes k 0) same

pub get_or-filled : (loose : List Range) (fill : ℕ) (bytes : List ℕ) (k : ℕ) → k < length bytes → get_or (filled_from 0 loose fill bytes) k 0 ≡ (if is_loose loose k then fill else get_or bytes k 0)
get_or-filled loose fill bytes k lt =
    let same : 0 + k ≡ k = omega arith in
    get_or-filled_from 0 loose fill bytes k lt ∙ ap (λ n. if is_loose loose n then fill else get_or bytes k 0) same

below : (r : Range) (loose : List Range) (i : ℕ) → i < r.at → is_loose (r ∷ loose) i ≡ is_loose loose i
below r loose i lt = grind (arith, nat_tests, lt)

above : (r : Range) (loose : List Range) (i : ℕ) → r.at + r.len ≤ i → is_loose (r ∷ loose) i ≡ is_loose loose i
above r loose i le = grind (arith, nat_tests, le)

inside : (r : Range) (loose : List Range) (i : ℕ) → r.at ≤ i → i < r.at + r.len → is_loose (r ∷ loose) i ≡ true
inside r loose i le lt = grind (arith, nat_tests, le, lt)

-- one range more
pub fill_more : (r : Range) (loose : List Range) (fill : ℕ) (bytes : List ℕ) → r.at + r.len ≤ length bytes
    → overwritten (filled_from 0 loose fill bytes) r.at (replicate r.len fill) ≡ filled_from 0 (r ∷ loose) fill bytes
fill_more r loose fill bytes le = ext_get_or 0 (overwritten now r.at put) (filled_from 0 (r ∷ loose) fill bytes) (size ∙ sym (length-filled_from 0 (r ∷ loose) fill bytes)) (λ i lt. each i (omega (arith, lt, size)))
  where
    now : List ℕ
    now = filled_from 0 loose fill bytes

    put : List ℕ
    put = replicate r.len fill

    wide : length put ≡ r.len
    wide = length-replicate r.len fill

    long : length now ≡ length bytes
    long = length-filled_from 0 loose fill bytes

    front : length (take r.at now) ≡ r.at
    front = omega (arith, length-take r.at now, long, le)

    size : length (overwritten now r.at put) ≡ length bytes
    size = omega (arith, length-overwritten now r.at put, front, wide, long, le)

    to : (i : ℕ) → i < length bytes → (b : Bool) → is_loose (r ∷ loose) i ≡ b → get_or (overwritten now r.at put) i 0 ≡ (if b then fill else get_or bytes i 0)
        → get_or (overwritten now r.at put) i 0 ≡ get_or (filled_from 0 (r ∷ loose) fill bytes) i 0
    to i lt b is same = same ∙ (λ j. if sym is j then fill else get_or bytes i 0) ∙ sym (get_or-filled (r ∷ loose) fill bytes i lt)

    kept : (i : ℕ) → i < length bytes → get_or (overwritten now r.at put) i 0 ≡ get_or now i 0 → is_loose (r ∷ loose) i ≡ is_loose loose i
        → get_or (overwritten now r.at put) i 0 ≡ get_or (filled_from 0 (r ∷ loose) fill bytes) i 0
    kept i lt same is = to i lt (is_loose loose i) is (same ∙ get_or-filled loose fill bytes i lt)

    each : (i : ℕ) → i < length bytes → get_or (overwritten now r.at put) i 0 ≡ get_or (filled_from 0 (r ∷ loose) fill bytes) i 0
    each i lt = elim (cases_lt i r.at) [
      | inl before ↦ kept i lt (overwritten_before now r.at put i (omega (arith, front, before))) (below r loose i before)
      | inr from ↦ elim (cases_lt i (r.at + r.len)) [
        | inl within ↦
            let there = get_or-append_right (take r.at now) (put ++ drop (r.at + length put) now) r.at i 0 front from in
            let here = get_or_append_left put (drop (r.at + length put) now) 0 (i - r.at) (omega (arith, wide, from, within)) in
            to i lt true (inside r loose i from within) (there ∙ here ∙ get_or-replicate r.len (i - r.at) fill 0 (omega (arith, from, within)))
        | inr past ↦ kept i lt (overwritten_after now r.at put i (omega (arith, long, le)) (omega (arith, wide, past))) (above r loose i past)
      ]
    ]

-- no range
pub fill_none : (i fill : ℕ) (bytes : List ℕ) → filled_from i [] fill bytes ≡ bytes
fill_none i fill [] = refl
fill_none i fill (b ∷ bytes) = ap (λ (l : List ℕ). b ∷ l) (fill_none (i + 1) fill bytes)

-- a disk that shows one of its images may leave the filled one
pub filled_image : (fill : ℕ) (s : Shown) → IsImage s s.bytes → IsImage s (filled fill s)
filled_image fill s image =
    let size = length-filled_from 0 s.loose fill s.bytes in
    record {
      no_shorter = omega (arith, size, image.no_shorter);
      no_longer = omega (arith, size);
      rest = λ i lt fixed.
          let within : i < length s.bytes = omega (arith, lt, size) in
          get_or-filled s.loose fill s.bytes i within ∙ (λ j. if fixed j then fill else get_or s.bytes i 0) ∙ image.rest i within fixed;
    }
