-- decides: the grammar
-- What a fault says of the language alone: of no parser, and of no order in which rules are tried.
use Rattle.std.specs.Prelude.{◌≡◌, ℕ, [], ◌∷◌, ◌++◌, length}
use Rattle.ifdb_syntax.specs.declared.lexeme.Lexeme.{Lexeme}
use Rattle.ifdb_syntax.specs.Words.{Lexemes}
use Rattle.ifdb_syntax.specs.Lang.{Lang}

-- some text that begins so is in the language
pub record Begins {A : Type 0} (l : Lang A) (u : Lexemes) : Type 0 where
  pub tail : Lexemes
  pub value : A
  pub spelled : l (u ++ tail) value

-- The text is not in the language, and `left` lexemes are left from the first that fits nothing: those before it begin
-- the language, and with it they no longer do. Where none is left, the text ended too early.
pub record IsFault {A : Type 0} (l : Lang A) (s : Lexemes) (left : ℕ) : Type 0 where
  pub used : Lexemes
  pub rest : Lexemes
  pub parts : s ≡ used ++ rest
  pub counts : length rest ≡ left
  pub begins : Begins l used
  pub ends : (t : Lexeme) (x : Lexemes) → rest ≡ t ∷ x → Begins l (used ++ t ∷ []) → ⊥
  pub refused : (a : A) → l s a → ⊥
