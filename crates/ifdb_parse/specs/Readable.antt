-- Which tokens can be read: those that a line without a fault has.
use Rattle.std.specs.Prelude.{◌≡◌, ◌<◌, ◌≤◌, ◌-◌, ℕ, false, List, length, drop, Some, All}
use Rattle.ifdb_lex.specs.declared.token.Token.{Token}
use Rattle.ifdb_lex.specs.Front.{front}
use Rattle.ifdb_lex.specs.Limits.{is_long_name}

-- a token stands at its place, and is no name that is too long
pub record IsReadable (line : List ℕ) (token : Token) : Type 0 where
  pub some : token.start < token.end
  pub within : token.end ≤ length line
  pub stands : front (drop token.start line) ≡ Some (token.kind, token.end - token.start)
  pub short : is_long_name token ≡ false

-- all of them do
abbrev pub AreReadable : List ℕ → List Token → Type 0
AreReadable line tokens = All (IsReadable line) tokens
