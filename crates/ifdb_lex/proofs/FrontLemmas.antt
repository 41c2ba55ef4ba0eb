-- What the loops over a token's bytes need.
use Rattle.std.proofs.Common.{◌≡◌, ℕ, suc, ◌+◌, ◌-◌, ◌*◌, ◌<◌, true, false, ◌==◌, List, [], ◌∷◌, length, drop, slice_index, sym, ◌∙◌, ap, arith, add-one}
use Rattle.std.proofs.Math.Seq.{drop-cons}
use Rattle.ifdb_lex.specs.Front.{closing, decimal, capped}

-- a number may be capped before each further digit
capped_decimal : (value : ℕ) (digits : List ℕ) → capped (decimal (capped value) digits) ≡ capped (decimal value digits)
capped_decimal value [] = omega arith
capped_decimal value (digit ∷ digits) =
    let d = digit - 48 in
    let step : capped (capped value * 10 + d) ≡ capped (value * 10 + d) = omega arith in
    sym (capped_decimal (capped value * 10 + d) digits)
    ∙ (ap (λ v. capped (decimal v digits)) step ∙ capped_decimal (value * 10 + d) digits)

-- the next place, as `drop` computes it
drop_next : (text : List ℕ) (at : ℕ) → drop (at + 1) text ≡ drop (suc at) text
drop_next text at = ap (λ n. drop n text) (add-one at)

-- one digit more
pub value_goes : (value : ℕ) (digits : List ℕ) (i : ℕ) → i < length digits →
    capped (decimal (capped (value * 10 + (slice_index digits i - 48))) (drop (i + 1) digits)) ≡ capped (decimal value (drop i digits))
value_goes value digits i h =
    rw (drop_next digits i, drop-cons digits i 0 h) (capped_decimal (value * 10 + (slice_index digits i - 48)) (drop (suc i) digits))

-- behind a byte that is no quote
behind_other : (n b : ℕ) (text : List ℕ) → (b == 39) ≡ false → closing (n + 1) text ≡ closing n (b ∷ text)
behind_other n b [] other = rw other
behind_other n b (next ∷ text) other = rw other

pub closing_goes : (n : ℕ) (text : List ℕ) (at : ℕ) → at < length text → (slice_index text at == 39) ≡ false →
    closing (n + 1) (drop (at + 1) text) ≡ closing n (drop at text)
closing_goes n text at h other =
    rw (drop_next text at, drop-cons text at 0 h) (behind_other n (slice_index text at) (drop (suc at) text) other)

-- behind two quotes
behind_pair : (n b next : ℕ) (text : List ℕ) → (b == 39) ≡ true → (next == 39) ≡ true → closing (n + 2) text ≡ closing n (b ∷ next ∷ text)
behind_pair n b next text quote twice = rw (quote, twice)

pub closing_pairs : (n : ℕ) (text : List ℕ) (at : ℕ) → at + 1 < length text →
    (slice_index text at == 39) ≡ true → (slice_index text (at + 1) == 39) ≡ true →
    closing (n + 2) (drop (at + 2) text) ≡ closing n (drop at text)
closing_pairs n text at h quote twice =
    let step : at + 2 ≡ suc (at + 1) = omega arith in
    let two : drop (at + 2) text ≡ drop (suc (at + 1)) text = ap (λ k. drop k text) step in
    let here : at < length text = omega arith in
    let tail : drop (suc at) text ≡ slice_index text (at + 1) ∷ drop (suc (at + 1)) text = sym (drop_next text at) ∙ drop-cons text (at + 1) 0 h in
    rw (two, drop-cons text at 0 here, tail) (behind_pair n (slice_index text at) (slice_index text (at + 1)) (drop (suc (at + 1)) text) quote twice)
