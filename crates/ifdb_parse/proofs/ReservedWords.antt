-- A text is compared with the reserved words of its length alone.
use Rattle.std.proofs.Common.{◌≡◌, ℕ, Bool, true, false, ◌==◌, if◌then◌else◌, List, [], ◌∷◌, length, map, Some, None, refl, ap, ◌∙◌, arith}
use Rattle.std.specs.Char.{to_ascii_lowercase}
use Rattle.std.specs.Str.{str_eq_ignore_ascii_case}
use Rattle.std.proofs.lemmas.Bool.Decides.{nat_tests}
use Rattle.std.proofs.lemmas.List.{length-map}
use Rattle.std.proofs.lemmas.Slice.Eq.{bytes_eq-Decides}
use Rattle.ifdb_syntax.specs.declared.lexeme.Lexeme.{Lexeme}
use Rattle.ifdb_syntax.specs.declared.lexeme.Lexeme.TheVariants as t
use Rattle.ifdb_syntax.specs.Words.{Lexemes}
use Rattle.ifdb_syntax.specs.Spelling.{word_text}
use Rattle.ifdb_parse.specs.Lexemes.{reserved_words, spelled_among, reserved}

-- texts of two lengths are not the same in any case
other_length : (a b : List ℕ) → (length a == length b) ≡ false → str_eq_ignore_ascii_case a b ≡ false
other_length a b h = grind (
  arith,
  nat_tests,
  bytes_eq-Decides (map to_ascii_lowercase a)
      (map to_ascii_lowercase b),
  length-map a to_ascii_lowercase,
  length-map b to_ascii_lowercase,
)

-- the words of one length
of_length : ℕ → Lexemes → Lexemes
of_length n [] = []
of_length n (w ∷ ws) = if n == length (word_text w) then w ∷ of_length n ws else of_length n ws

among_step : (text : List ℕ) (n : ℕ) (w : Lexeme) (ws : Lexemes) (test : Bool) → (n == length (word_text w)) ≡ test → length text ≡ n →
    spelled_among text ws ≡ spelled_among text (of_length n ws) → spelled_among text (w ∷ ws) ≡ spelled_among text (of_length n (w ∷ ws))
unfolding of_length
among_step text n w ws true e h more = rw e (ap (λ o. if str_eq_ignore_ascii_case text (word_text w) then Some w else o) more)
among_step text n w ws false e h more = rw (e, other_length text (word_text w) (rw h e)) more

among_of_length : (text : List ℕ) (n : ℕ) (ws : Lexemes) → length text ≡ n → spelled_among text ws ≡ spelled_among text (of_length n ws)
unfolding of_length
among_of_length text n [] h = refl
among_of_length text n (w ∷ ws) h = among_step text n w ws (n == length (word_text w)) refl h (among_of_length text n ws h)

pub of_two : (text : List ℕ) → length text ≡ 2 → reserved text ≡ spelled_among text (t.As ∷ t.By ∷ t.In ∷ t.Is ∷ t.Of ∷ t.Or ∷ t.To ∷ [])
unfolding reserved of_length
of_two text h = among_of_length text 2 reserved_words h

pub of_three : (text : List ℕ) → length text ≡ 3 → reserved text ≡ spelled_among text
    (t.And ∷ t.Asc ∷ t.Bye ∷ t.Int ∷ t.Key ∷ t.Max ∷ t.Min ∷ t.Not ∷ t.Set ∷ t.Sum ∷ t.Tag ∷ [])
unfolding reserved of_length
of_three text h = among_of_length text 3 reserved_words h

pub of_four : (text : List ℕ) → length text ≡ 4 → reserved text ≡ spelled_among text
    (t.Call ∷ t.Desc ∷ t.From ∷ t.Into ∷ t.Null ∷ t.Show ∷ t.Text ∷ t.View ∷ t.With ∷ [])
unfolding reserved of_length
of_four text h = among_of_length text 4 reserved_words h

pub of_five : (text : List ℕ) → length text ≡ 5 → reserved text ≡ spelled_among text
    (t.Begin ∷ t.Count ∷ t.Grant ∷ t.Group ∷ t.Hello ∷ t.Label ∷ t.Order ∷ t.Table ∷ t.Where ∷ [])
unfolding reserved of_length
of_five text h = among_of_length text 5 reserved_words h

pub of_six : (text : List ℕ) → length text ≡ 6 → reserved text ≡ spelled_among text
    (t.Commit ∷ t.Create ∷ t.Delete ∷ t.Insert ∷ t.Revoke ∷ t.Select ∷ t.Update ∷ t.Values ∷ [])
unfolding reserved of_length
of_six text h = among_of_length text 6 reserved_words h

pub of_seven : (text : List ℕ) → length text ≡ 7 → reserved text ≡ spelled_among text (t.Closure ∷ t.Foreign ∷ t.Integer ∷ t.Primary ∷ [])
unfolding reserved of_length
of_seven text h = among_of_length text 7 reserved_words h

pub of_eight : (text : List ℕ) → length text ≡ 8 → reserved text ≡ spelled_among text (t.Compound ∷ t.Rollback ∷ [])
unfolding reserved of_length
of_eight text h = among_of_length text 8 reserved_words h

pub of_nine : (text : List ℕ) → length text ≡ 9 → reserved text ≡ spelled_among text (t.Clearance ∷ t.Principal ∷ [])
unfolding reserved of_length
of_nine text h = among_of_length text 9 reserved_words h

pub of_ten : (text : List ℕ) → length text ≡ 10 → reserved text ≡ spelled_among text (t.References ∷ [])
unfolding reserved of_length
of_ten text h = among_of_length text 10 reserved_words h

pub of_thirteen : (text : List ℕ) → length text ≡ 13 → reserved text ≡ spelled_among text (t.Declassifying ∷ [])
unfolding reserved of_length
of_thirteen text h = among_of_length text 13 reserved_words h

-- a text of another length is none of them
pub of_other : (text : List ℕ) → (length text == 2) ≡ false → (length text == 3) ≡ false → (length text == 4) ≡ false → (length text == 5) ≡ false →
    (length text == 6) ≡ false → (length text == 7) ≡ false → (length text == 8) ≡ false → (length text == 9) ≡ false → (length text == 10) ≡ false →
    (length text == 13) ≡ false → reserved text ≡ None
unfolding reserved of_length
of_other text h2 h3 h4 h5 h6 h7 h8 h9 h10 h13 = among_of_length text (length text) reserved_words refl ∙ (rw (h2, h3, h4, h5, h6, h7, h8, h9, h10, h13) refl)
