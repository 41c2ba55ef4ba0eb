-- When a parser reads a language: exactly it, and with the exact place of each fault.
use Rattle.std.specs.Prelude.{◌≡◌, ℕ, Bool, true, false, [], ◌∷◌, ◌++◌, length, Ok, Err}
use Rattle.ifdb_syntax.specs.declared.lexeme.Lexeme.{Lexeme}
use Rattle.ifdb_syntax.specs.Words.{Lexemes, kind}
use Rattle.ifdb_parse.specs.theory.Kinds.{Kinds, mem, sees}
use Rattle.ifdb_syntax.specs.Lang.{Lang}
use Rattle.ifdb_parse.specs.theory.Parser.{Parser}

-- the next lexeme does not go on
abbrev pub Stops : Kinds → Lexemes → Type 0
Stops ks v = sees ks v ≡ false

abbrev pub Starts : Kinds → Bool → Lexemes → Type 0
Starts ks empty [] = empty ≡ true
Starts ks empty (t ∷ u) = mem (kind t) ks ≡ true

-- a value that was read is spelled by the lexemes taken, and depends on these and the next one alone
pub record Took {A : Type 0} (l : Lang A) (p : Parser A) (s : Lexemes) (a : A) (r : Lexemes) : Type 0 where
  pub used : Lexemes
  pub parts : s ≡ used ++ r
  pub spelled : l used a
  pub again : (t : Lexeme) (x w : Lexemes) → r ≡ t ∷ x → p (used ++ t ∷ w) ≡ Ok (a, t ∷ w)

-- the lexemes before a fault begin the language, and with the next one nothing of it
pub record Faults {A : Type 0} (l : Lang A) (more : Kinds) (s : Lexemes) (left : ℕ) : Type 0 where
  pub used : Lexemes
  pub rest : Lexemes
  pub parts : s ≡ used ++ rest
  pub counts : length rest ≡ left
  pub tail : Lexemes
  pub value : A
  pub goes_on : l (used ++ tail) value
  pub dead : (t : Lexeme) (x w u v : Lexemes) (a : A) → rest ≡ t ∷ x → used ++ t ∷ w ≡ u ++ v → l u a → Stops more v → ⊥

pub record Reads {A : Type 0} (l : Lang A) (p : Parser A) (first : Kinds) (empty : Bool) (more : Kinds) : Type 0 where
  pub word : Lexemes
  pub sample : A
  pub some : l word sample
  pub starts : (u : Lexemes) (a : A) → l u a → Starts first empty u
  pub complete : (u v : Lexemes) (a : A) → l u a → Stops more v → p (u ++ v) ≡ Ok (a, v)
  pub took : (s : Lexemes) (a : A) (r : Lexemes) → p s ≡ Ok (a, r) → Took l p s a r
  pub faults : (s : Lexemes) (k : ℕ) → p s ≡ Err k → Faults l more s k
