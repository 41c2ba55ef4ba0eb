-- decides: the grammar
-- What the tokens of a line say: reserved words in any case, names in small letters, numbers, texts without their quotes, and symbols.
use Rattle.std.specs.Prelude.{ℕ, ◌+◌, ◌-◌, ◌&&◌, ◌==◌, if◌then◌else◌, List, [], ◌∷◌, map, slice_range, Option, Some, None}
use Rattle.std.specs.Str.{str_eq_ignore_ascii_case}
use Rattle.ifdb_value.specs.Name.{folded}
use Rattle.ifdb_lex.specs.declared.token.Token.{Token}
use Rattle.ifdb_lex.specs.declared.token.TokenKind.{TokenKind}
use Rattle.ifdb_lex.specs.declared.token.TokenKind.TheVariants as kind
use Rattle.ifdb_syntax.specs.declared.lexeme.Lexeme.{Lexeme}
use Rattle.ifdb_syntax.specs.declared.lexeme.Lexeme.TheVariants as t
use Rattle.ifdb_syntax.specs.Words.{Lexemes}
use Rattle.ifdb_syntax.specs.Spelling.{word_text}

-- ---- words

-- all reserved words
abbrev pub reserved_words : Lexemes
reserved_words =
    t.And ∷ t.As ∷ t.Asc ∷ t.Begin ∷ t.By ∷ t.Bye ∷ t.Call ∷ t.Clearance ∷ t.Closure ∷ t.Commit ∷ t.Compound ∷ t.Count ∷ t.Create
    ∷ t.Declassifying ∷ t.Delete ∷ t.Desc ∷ t.Foreign ∷ t.From ∷ t.Grant ∷ t.Group ∷ t.Hello ∷ t.In ∷ t.Insert ∷ t.Int ∷ t.Integer
    ∷ t.Into ∷ t.Is ∷ t.Key ∷ t.Label ∷ t.Max ∷ t.Min ∷ t.Not ∷ t.Null ∷ t.Of ∷ t.Or ∷ t.Order ∷ t.Primary ∷ t.Principal
    ∷ t.References ∷ t.Revoke ∷ t.Rollback ∷ t.Select ∷ t.Set ∷ t.Show ∷ t.Sum ∷ t.Table ∷ t.Tag ∷ t.Text ∷ t.To ∷ t.Update
    ∷ t.Values ∷ t.View ∷ t.Where ∷ t.With ∷ []

-- that one of these words which a text spells, in any case
abbrev pub spelled_among : List ℕ → Lexemes → Option Lexeme
spelled_among text [] = None
spelled_among text (word ∷ words) = if str_eq_ignore_ascii_case text (word_text word) then Some word else spelled_among text words

-- the reserved word that a text spells
unfoldable pub reserved : List ℕ → Option Lexeme
reserved text = spelled_among text reserved_words

-- a reserved word, or else a name in small letters
abbrev pub word_or_name : List ℕ → Option Lexeme → Lexeme
word_or_name text (Some word) = word
word_or_name text None = t.Name (folded text)

-- ---- texts and symbols

-- of two quotes one behind the other, one is kept
abbrev pub undoubled : List ℕ → List ℕ
undoubled [] = []
undoubled (b ∷ []) = b ∷ []
undoubled (b ∷ next ∷ text) = if b == 39 && next == 39 then 39 ∷ undoubled text else b ∷ undoubled (next ∷ text)

-- a symbol of one byte
abbrev pub symbol_of : ℕ → Lexeme
symbol_of b =
    if b == 40 then t.Open
    else (if b == 41 then t.Close
    else (if b == 44 then t.Comma
    else (if b == 46 then t.Dot
    else (if b == 61 then t.Equal
    else (if b == 60 then t.Less
    else (if b == 62 then t.Greater
    else (if b == 43 then t.Plus
    else (if b == 45 then t.Minus
    else (if b == 42 then t.Star
    else t.Semicolon)))))))))

-- ---- all tokens

-- what a token of this kind says, whose bytes are these
abbrev pub lexeme_from : List ℕ → ℕ → ℕ → TokenKind → Lexeme
lexeme_from line start end kind.Word = let text = slice_range line start end in word_or_name text (reserved text)
lexeme_from line start end (kind.Number value) = t.Number value
lexeme_from line start end kind.Text = t.Quoted (undoubled (slice_range line (start + 1) (end - 1)))
lexeme_from line start end (kind.Symbol b) = symbol_of b
lexeme_from line start end kind.NotEqual = t.NotEqual
lexeme_from line start end kind.AtMost = t.AtMost
lexeme_from line start end kind.AtLeast = t.AtLeast

-- what a token of a line says
abbrev pub lexeme_of : List ℕ → Token → Lexeme
lexeme_of line token = lexeme_from line token.start token.end token.kind

-- what the tokens of a line say, in order
abbrev pub lexemes_of : List ℕ → List Token → Lexemes
lexemes_of line tokens = map (lexeme_of line) tokens
