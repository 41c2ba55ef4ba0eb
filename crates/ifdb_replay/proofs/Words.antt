-- Which reserved word a text is, by the text in small letters.
use Rattle.std.proofs.Common.{◌≡◌, ℕ, List, [], ◌∷◌, refl, ap, ◌∙◌}
use Rattle.std.specs.Prelude.{Option, Some, None, if◌then◌else◌}
use Rattle.std.specs.Str.{bytes_eq, str_to_ascii_lowercase}
use Rattle.ifdb_value.specs.Name.{folded}
use Rattle.ifdb_syntax.specs.declared.lexeme.Lexeme.{Lexeme}
use Rattle.ifdb_syntax.specs.Words.{Lexemes}
use Rattle.ifdb_syntax.specs.Spelling.{word_text}
use Rattle.ifdb_parse.specs.Lexemes.{reserved, reserved_words, spelled_among}
use Rattle.ifdb_replay.specs.FirstWord.{FoldsToAWord}

abbrev pub spelled_low : List ℕ → Lexemes → Option Lexeme
spelled_low low [] = None
spelled_low low (word ∷ words) = if bytes_eq low (str_to_ascii_lowercase (word_text word)) then Some word else spelled_low low words

by_low : (text : List ℕ) (words : Lexemes) → spelled_among text words ≡ spelled_low (folded text) words
by_low text [] = refl
by_low text (word ∷ words) = ap (λ x. if bytes_eq (folded text) (str_to_ascii_lowercase (word_text word)) then Some word else x) (by_low text words)

pub folds : FoldsToAWord
unfolding reserved
folds text = (λ is. by_low text reserved_words ∙ ap (λ l. spelled_low l reserved_words) is, λ is. by_low text reserved_words ∙ ap (λ l. spelled_low l reserved_words) is)
