-- Where quotes stand in pairs, one of each is kept.
use Rattle.std.proofs.Common.{◌≡◌, ℕ, zero, suc, ◌+◌, ◌<◌, ◌≤◌, true, false, ◌&&◌, ◌==◌, List, [], ◌∷◌, ◌++◌, length, take, drop, slice_index, refl, ap, arith}
use Rattle.std.proofs.lemmas.Grind.{common_steps}
use Rattle.ifdb_parse.specs.Lexemes.{undoubled}

-- of less than two bytes all are kept
undoubled_short : (text : List ℕ) → length text ≤ 1 → undoubled text ≡ text
undoubled_short [] h = refl
undoubled_short (b ∷ []) h = refl
undoubled_short (b ∷ next ∷ text) h = absurd (omega arith)

pub no_pair : (text : List ℕ) (at : ℕ) → at ≤ length text → length text ≤ at + 1 → take at text ++ undoubled (drop at text) ≡ text
no_pair text zero h le = undoubled_short text (omega arith)
no_pair [] (suc at) h le = refl
no_pair (b ∷ text) (suc at) h le = ap (λ (z : List ℕ). b ∷ z) (no_pair text at (omega arith) (omega arith))

-- past a byte that begins no pair
pub undoubled_goes : (text : List ℕ) (at : ℕ) → at + 1 < length text → (slice_index text at == 39 && slice_index text (at + 1) == 39) ≡ false →
    take (at + 1) text ++ undoubled (drop (at + 1) text) ≡ take at text ++ undoubled (drop at text)
undoubled_goes [] at h other = absurd (omega arith)
undoubled_goes (b ∷ []) at h other = absurd (omega arith)
undoubled_goes (b ∷ next ∷ text) zero h other = rw other refl
undoubled_goes (b ∷ next ∷ text) (suc at) h other =
    let n : suc at + 1 ≡ suc (at + 1) = omega arith in
    let o : (slice_index (next ∷ text) at == 39 && slice_index (next ∷ text) (at + 1) == 39) ≡ false = rw n at other in
    rw n (ap (λ (z : List ℕ). b ∷ z) (undoubled_goes (next ∷ text) at (omega arith) o))

-- past a pair
pub undoubled_pair : (text : List ℕ) (at : ℕ) → at + 1 < length text → (slice_index text at == 39 && slice_index text (at + 1) == 39) ≡ true →
    take (at + 1) text ++ undoubled (drop (at + 2) text) ≡ take at text ++ undoubled (drop at text)
undoubled_pair [] at h pair = absurd (omega arith)
undoubled_pair (b ∷ []) at h pair = absurd (omega arith)
undoubled_pair (b ∷ next ∷ text) zero h pair = rw pair (ap (λ n. n ∷ undoubled text) (grind (arith, common_steps)))
undoubled_pair (b ∷ next ∷ text) (suc at) h pair =
    let n : suc at + 1 ≡ suc (at + 1) = omega arith in
    let m : suc at + 2 ≡ suc (at + 2) = omega arith in
    let o : (slice_index (next ∷ text) at == 39 && slice_index (next ∷ text) (at + 1) == 39) ≡ true = rw n at pair in
    rw (n, m) (ap (λ (z : List ℕ). b ∷ z) (undoubled_pair (next ∷ text) at (omega arith) o))
