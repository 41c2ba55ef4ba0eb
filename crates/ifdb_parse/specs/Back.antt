-- Which request a line spells, and that its canonical text spells it too.
use Rattle.std.specs.Prelude.{◌≡◌, ℕ, false, List, Ok}
use Rattle.ifdb_lex.specs.declared.token.Token.{Token}
use Rattle.ifdb_lex.specs.Line.{without_return}
use Rattle.ifdb_lex.specs.Lex.{lexed}
use Rattle.ifdb_syntax.specs.declared.request.Request.{Request}
use Rattle.ifdb_syntax.specs.Reading.{bounded}
use Rattle.ifdb_syntax.specs.Requests.{line as line_rule}
use Rattle.ifdb_syntax.specs.canonical.Text.{canonical_text}
use Rattle.ifdb_parse.specs.Lexemes.{lexemes_of}
use Rattle.ifdb_parse.specs.TreeLimits.{exceeds_tree}

-- a line without a fault, and its tree
pub record IsSpelled (line : List ℕ) (r : Request) : Type 0 where
  pub tokens : List Token
  pub read : lexed line ≡ Ok tokens
  pub spelled : line_rule bounded (lexemes_of (without_return line) tokens) r
  pub within : exceeds_tree (lexemes_of (without_return line) tokens) r ≡ false

-- the canonical text of a request that some line spells is a line that spells it
abbrev pub ReadsBack : Type 0
ReadsBack = (line : List ℕ) (r : Request) → IsSpelled line r → IsSpelled (canonical_text r) r
