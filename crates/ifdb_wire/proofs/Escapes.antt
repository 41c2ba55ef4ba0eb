-- Runs of a text without escapes.
use Rattle.std.proofs.Common.{◌≡◌, ◌∙◌, sym, refl, ap, ℕ, zero, suc, ◌+◌, ◌-◌, ◌<◌, ◌≤◌, arith, true, false}
use Rattle.std.proofs.Common.{List, [], ◌∷◌, ◌++◌, length, take, drop, get_or, drop-cons, drop-drop, get_or-drop}
use Rattle.std.specs.Prelude.{position, Some, None}
use Rattle.std.specs.List.{position_or_len}
use Rattle.std.proofs.lemmas.List.{take_rest}
use Rattle.std.proofs.lemmas.List.Quantifiers.{position-Some}
use Rattle.std.proofs.lemmas.List.Sums.{fails_before_first}
use Rattle.std.proofs.lemmas.Bool.Decides.{nat_tests}
use Rattle.std.proofs.lemmas.Grind.{common_steps}
use Rattle.ifdb_wire.specs.Text.{is_escaped, escaped_byte, escaped}

-- every other byte stands as it is
plain_byte : (b : ℕ) → is_escaped b ≡ false → escaped_byte b ≡ b ∷ []
plain_byte b e = grind (arith, nat_tests)

-- bytes without escapes stand as they are
escaped-run : (xs : List ℕ) (i : ℕ) → ((k : ℕ) → k < i → is_escaped (get_or xs k 0) ≡ false) → escaped xs ≡ take i xs ++ escaped (drop i xs)
escaped-run [] zero plain = refl
escaped-run [] (suc i) plain = refl
escaped-run (x ∷ xs) zero plain = refl
escaped-run (x ∷ xs) (suc i) plain =
    rw (plain_byte x (plain 0 (omega arith)))
    (ap (λ rest. x ∷ rest) (escaped-run xs i (λ k lt. plain (suc k) (omega (arith, lt)))))

escaped-none : (xs : List ℕ) → position is_escaped xs ≡ None → escaped xs ≡ xs
escaped-none xs e =
    let all : length xs ≤ position_or_len is_escaped xs = grind (arith, common_steps) in
    rw (escaped-run xs (length xs) (λ k lt. fails_before_first is_escaped xs k 0 (omega (arith, lt, all)))) (grind (arith, common_steps))

-- a run without escapes, an escape, and what is left
escaped-some : (xs : List ℕ) (i : ℕ) → position is_escaped xs ≡ Some i →
    escaped xs ≡ take i xs ++ (escaped_byte (get_or xs i 0) ++ escaped (drop (i + 1) xs))
escaped-some xs i e =
    let found = position-Some is_escaped xs i 0 e in
    let after : i + 1 ≡ suc i = omega arith in
    rw (escaped-run xs i found.2, after, drop-cons xs i 0 found.0) refl

-- the place of an escape, counted from the start of the text
pub is_escaped-ahead : (xs : List ℕ) (from ahead : ℕ) → position is_escaped (take (length xs - from) (drop from xs)) ≡ Some ahead →
    is_escaped (get_or xs (from + ahead) 0) ≡ true
is_escaped-ahead xs from ahead e =
    let found = position-Some is_escaped (drop from xs) ahead 0 (ap (position is_escaped) (sym (take_rest xs from)) ∙ e) in
    ap is_escaped (sym (get_or-drop from xs ahead 0)) ∙ found.1

pub escaped-ahead : (xs : List ℕ) (from ahead : ℕ) → position is_escaped (take (length xs - from) (drop from xs)) ≡ Some ahead →
    escaped (drop from xs) ≡ take ahead (drop from xs) ++ (escaped_byte (get_or xs (from + ahead) 0) ++ escaped (drop (from + ahead + 1) xs))
escaped-ahead xs from ahead e =
    let step = escaped-some (drop from xs) ahead (ap (position is_escaped) (sym (take_rest xs from)) ∙ e) in
    let after : from + ahead + 1 ≡ from + (ahead + 1) = omega arith in
    rw (after, sym (drop-drop (ahead + 1) from xs), sym (get_or-drop from xs ahead 0)) step

pub escaped-rest : (xs : List ℕ) (from : ℕ) → position is_escaped (take (length xs - from) (drop from xs)) ≡ None → escaped (drop from xs) ≡ drop from xs
escaped-rest xs from e = escaped-none (drop from xs) (ap (position is_escaped) (sym (take_rest xs from)) ∙ e)

pub joined : (out run mark rest : List ℕ) → ((out ++ run) ++ mark) ++ rest ≡ out ++ (run ++ (mark ++ rest))
joined out run mark rest = grind (arith, common_steps)
