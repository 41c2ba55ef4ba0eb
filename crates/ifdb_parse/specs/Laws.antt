-- decides: the grammar
-- What the laws of this crate say.
use Rattle.std.specs.Prelude.{◌≡◌, ◌↔◌, ◌⊎◌, ℕ, Bool, true, false, ◌||◌, not, List, Ok, Err}
use Rattle.ifdb_lex.specs.declared.token.Token.{Token}
use Rattle.ifdb_lex.specs.declared.fault.LexFault.TheVariants as lex
use Rattle.ifdb_lex.specs.Line.{without_return}
use Rattle.ifdb_lex.specs.Lex.{lexed}
use Rattle.ifdb_syntax.specs.declared.request.Request.{Request}
use Rattle.ifdb_syntax.specs.Words.{Lexemes}
use Rattle.ifdb_syntax.specs.Reading.{written, bounded}
use Rattle.ifdb_syntax.specs.Requests.{line}
use Rattle.ifdb_syntax.specs.Fault.{IsFault}
use Rattle.ifdb_syntax.specs.canonical.Text.{canonical_text}
use Rattle.ifdb_parse.specs.declared.fault.ParseFault.TheVariants as fault
use Rattle.ifdb_parse.specs.Lexemes.{lexemes_of}
use Rattle.ifdb_parse.specs.Numbers.{numbers_fit}
use Rattle.ifdb_parse.specs.TreeLimits.{exceeds_request}
use Rattle.ifdb_parse.specs.Parsed.{place, parsed}
use Rattle.ifdb_parse.specs.rules.Requests.{whole}

-- ---- the parser of the definitions

-- the parser gives a request exactly where the grammar has a line of it
abbrev pub WholeIsLine : Type 0
WholeIsLine = (s : Lexemes) (r : Request) → (whole s ≡ Ok r) ↔ line bounded s r

-- and a place exactly where it is that of a fault
abbrev pub WholeIsFault : Type 0
WholeIsFault = (s : Lexemes) (left : ℕ) → (whole s ≡ Err left) ↔ IsFault (line bounded) s left

-- a line has one request
abbrev pub OneRequest : Type 0
OneRequest = (s : Lexemes) (a b : Request) → line bounded s a → line bounded s b → a ≡ b

-- ---- what a line is read as, by the written grammar alone

-- a tree passes a limit: it has a number that no value holds, or a list or an expression that is too long
abbrev pub exceeds_limits : Request → Bool
exceeds_limits r = not (numbers_fit r) || exceeds_request r

-- the line's tokens say this request, which passes no limit
pub record IsRequest (l : List ℕ) (r : Request) : Type 0 where
  pub tokens : List Token
  pub read : lexed l ≡ Ok tokens
  pub spelled : line written (lexemes_of (without_return l) tokens) r
  pub within : exceeds_limits r ≡ false

-- the line's tokens say a request, but it passes a limit
pub record IsTooLarge (l : List ℕ) : Type 0 where
  pub tokens : List Token
  pub read : lexed l ≡ Ok tokens
  pub request : Request
  pub spelled : line written (lexemes_of (without_return l) tokens) request
  pub beyond : exceeds_limits request ≡ true

-- the line's tokens say no request, and this is the place of the first that fits nothing, or of the line's end
pub record IsMisplaced (l : List ℕ) (at : ℕ) : Type 0 where
  pub tokens : List Token
  pub read : lexed l ≡ Ok tokens
  pub left : ℕ
  pub misplaced : IsFault (line written) (lexemes_of (without_return l) tokens) left
  pub place : place (without_return l) tokens left ≡ at

abbrev pub ParsedIsRequest : Type 0
ParsedIsRequest = (l : List ℕ) (r : Request) → (parsed l ≡ Ok r) ↔ IsRequest l r

abbrev pub ParsedIsSyntax : Type 0
ParsedIsSyntax = (l : List ℕ) (at : ℕ) → (parsed l ≡ Err (fault.Syntax at)) ↔ ((lexed l ≡ Err (lex.At at)) ⊎ IsMisplaced l at)

abbrev pub ParsedIsLimit : Type 0
ParsedIsLimit = (l : List ℕ) → (parsed l ≡ Err fault.Limit) ↔ ((lexed l ≡ Err lex.Limit) ⊎ IsTooLarge l)

-- the canonical text of a request that a line is read as, is read as the same
abbrev pub ParsedReadsBack : Type 0
ParsedReadsBack = (l : List ℕ) (r : Request) → parsed l ≡ Ok r → parsed (canonical_text r) ≡ Ok r
