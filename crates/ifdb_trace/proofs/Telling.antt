-- Taking the lines of a reply off its front.
use Rattle.std.proofs.Common.{◌≡◌, ℕ, ◌+◌, ◌-◌, ◌≤◌, Bool, true, false, List, [], ◌∷◌, length, drop, refl, sym, ap, subst, ◌∙◌, arith, get_or}
use Rattle.std.specs.Prelude.{bytes_eq, not, nat_le}
use Rattle.std.specs.List.{list_all}
use Rattle.std.proofs.lemmas.Bool.{false≢true}
use Rattle.std.proofs.lemmas.Bool.Decides.{nat_tests}
use Rattle.std.proofs.lemmas.List.{drop-drop, length-drop}
use Rattle.ifdb_model.specs.Script.{lines_of}
use Rattle.ifdb_trace.specs.Accepted.{recorded_line, recorded_lines, is_short}
use Rattle.ifdb_trace.proofs.Exact.{bytes_are, bytes_itself}
use Rattle.ifdb_trace.proofs.Lines.{fits, lines_fit}

-- ---- the next line

not_false : (b : Bool) → not b ≡ false → b ≡ true
not_false true e = refl
not_false false e = absurd (false≢true (sym e))

-- it is this one
pub told_so : (text first line : List ℕ) (at n : ℕ) → at ≤ length text → n ≤ length (drop at text) → not (bytes_eq first line) ≡ false
    → lines_of (drop at text) ≡ first ∷ lines_of (drop n (drop at text)) → lines_of (drop at text) ≡ line ∷ lines_of (drop (length text - (length (drop at text) - n)) text)
told_so text first line at n le within same e =
    let size = length-drop at text in
    let place : length text - (length (drop at text) - n) ≡ at + n = omega (arith, size, le, within) in
    e ∙ ap (λ l. l ∷ lines_of (drop n (drop at text))) (bytes_are first line (not_false (bytes_eq first line) same))
    ∙ ap (λ rest. line ∷ lines_of rest) (drop-drop n at text ∙ ap (λ k. drop k text) (sym place))

-- ---- whether the lines are short

short_by : (n : ℕ) (lines : List (List ℕ)) → n ≤ 65533 → list_all (fits n) lines ≡ true → list_all is_short (Rattle.std.proofs.Common.map recorded_line lines) ≡ true
short_by n [] le h = refl
short_by n (line ∷ lines) le h = grind (arith, nat_tests, short_by n lines)

-- so they are in a short text
pub short_lines : (text : List ℕ) → length text ≤ 65533 → list_all is_short (recorded_lines text) ≡ true
short_lines text le = short_by (length text) (lines_of text) le (lines_fit text)
