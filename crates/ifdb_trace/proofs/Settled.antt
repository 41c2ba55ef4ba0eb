-- The settled lines of a text, one by one: those with a newline, and a last piece that is too long already.
use Rattle.std.proofs.Common.{◌≡◌, ◌<◌, ◌+◌, ℕ, Bool, true, false, List, [], ◌∷◌, ◌++◌, length, drop, sym, ap, ◌∙◌, arith, inl, inr, refl}
use Rattle.std.specs.Prelude.{◌⊎◌, filter}
use Rattle.std.proofs.lemmas.Bool.Decides.{nat_tests}
use Rattle.std.proofs.lemmas.List.{length-append}
use Rattle.ifdb_io.specs.Lines.{after_newline, IsLine, IsLong}
use Rattle.ifdb_model.specs.Script.{lines_of}
use Rattle.ifdb_laws.specs.Bytes.{is_line}
use Rattle.ifdb_trace.specs.Ended.{ended_lines, is_overlong, settled_lines}
use Rattle.ifdb_trace.proofs.Lines.{plain, lines_front, lines_last, lines_long, ended_front, ended_last, ended_long, before_newline}

settled_first : (bytes rest line : List ℕ) → ended_lines bytes ≡ line ∷ ended_lines rest → lines_of bytes ≡ line ∷ lines_of rest → settled_lines bytes ≡ line ∷ settled_lines rest
settled_first bytes rest line e l = λ i. e i ++ filter is_overlong (drop (length (e i)) (l i))

pub settled_front : (text rest : List ℕ) → is_line text ≡ true → settled_lines (text ++ 10 ∷ rest) ≡ text ∷ settled_lines rest
settled_front text rest h = settled_first (text ++ 10 ∷ rest) rest text (ended_front text rest h) (lines_front text rest h)

-- a last piece that is short isn't settled
pub settled_last : (text : List ℕ) → IsLine text → settled_lines text ≡ []
settled_last [] h = refl
settled_last (b ∷ text) h =
    let p = plain (b ∷ text) h.plain in
    let size = h.short in
    let short : is_overlong (b ∷ text) ≡ false = grind (arith, nat_tests) in
    (λ i. ended_last (b ∷ text) p i ++ filter is_overlong (drop (length (ended_last (b ∷ text) p i)) (lines_last (b ∷ text) p (omega arith) i)))
    ∙ rw short refl

-- a piece that is too long is
over_first : (bytes rest line : List ℕ) → is_overlong line ≡ true → lines_of bytes ≡ line ∷ lines_of rest
    → (ended_lines bytes ≡ line ∷ ended_lines rest) ⊎ ((ended_lines bytes ≡ []) × (rest ≡ [])) → settled_lines bytes ≡ line ∷ settled_lines rest
over_first bytes rest line too_long lines (inl e) = settled_first bytes rest line e lines
over_first bytes rest line too_long lines (inr e) =
    (λ i. e.0 i ++ filter is_overlong (drop (length (e.0 i)) (lines i)))
    ∙ rw too_long (ap (λ b. line ∷ filter is_overlong (lines_of b)) e.1 ∙ sym (ap (λ b. line ∷ settled_lines b) e.1))

long_is_over : (line : List ℕ) → 65535 < length line → is_overlong line ≡ true
long_is_over line h = grind (arith, nat_tests)

pub settled_long : (text rest : List ℕ) → IsLong text → settled_lines (text ++ rest) ≡ (text ++ before_newline rest) ∷ settled_lines (after_newline rest)
settled_long text rest h =
    let p = plain text h.plain in
    let size = h.long in
    over_first (text ++ rest) (after_newline rest) (text ++ before_newline rest)
    (long_is_over (text ++ before_newline rest) (omega (arith, size, length-append text (before_newline rest))))
    (lines_long text rest p (omega (arith, size))) (ended_long text rest p)
