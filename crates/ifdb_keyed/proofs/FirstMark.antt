-- The first mark of a line, byte by byte.
use Rattle.std.proofs.Common.{◌≡◌, ℕ, ◌+◌, ◌<◌, ◌≤◌, true, false, List, length, drop, get_or, Some, None, refl, sym, ap, ◌∙◌}
use Rattle.std.proofs.lemmas.List.{drop_all, drop_more}
use Rattle.ifdb_lex.specs.Line.{is_blank}
use Rattle.ifdb_keyed.specs.Marks.{first_mark}

-- a blank is no mark
pub mark_on : (line : List ℕ) (i : ℕ) → i < length line → is_blank (get_or line i 0) ≡ true → first_mark (drop (i + 1) line) ≡ first_mark (drop i line)
mark_on line i inside blank = sym (ap first_mark (drop_more line i 0 inside) ∙ rw blank refl)

-- another byte is
pub mark_here : (line : List ℕ) (i : ℕ) → i < length line → is_blank (get_or line i 0) ≡ false → first_mark (drop i line) ≡ Some (get_or line i 0)
mark_here line i inside other = ap first_mark (drop_more line i 0 inside) ∙ rw other refl

pub mark_none : (line : List ℕ) (i : ℕ) → length line ≤ i → first_mark (drop i line) ≡ None
mark_none line i over = ap first_mark (drop_all i line over)
