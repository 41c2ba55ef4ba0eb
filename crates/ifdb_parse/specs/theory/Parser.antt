-- Parsers: the value and the lexemes after it, or how many lexemes are left from the first that fits nothing.
use Rattle.std.specs.Prelude.{ℕ, zero, suc, Bool, true, false, [], ◌∷◌, length, Option, Some, None, Result, Ok, Err}
use Rattle.ifdb_syntax.specs.declared.lexeme.Lexeme.{Lexeme}
use Rattle.ifdb_syntax.specs.Words.{Lexemes}
use Rattle.ifdb_parse.specs.theory.Kinds.{Kinds, sees}

abbrev pub Outcome : Type 0 → Type 0
Outcome A = Result (A × Lexemes) ℕ

abbrev pub Parser : Type 0 → Type 0
Parser A = Lexemes → Outcome A

abbrev pub and_then : {A B : Type 0} → Outcome A → (A → Parser B) → Outcome B
and_then (Ok p) f = f p.0 p.1
and_then (Err e) f = Err e

infixl 10 ◌>>=◌
abbrev pub ◌>>=◌ : {A B : Type 0} → Parser A → (A → Parser B) → Parser B
p >>= f = λ s. and_then (p s) f

infixl 10 ◌>>◌
abbrev pub ◌>>◌ : {A B : Type 0} → Parser A → Parser B → Parser B
p >> q = p >>= (λ _. q)

abbrev pub pure : {A : Type 0} → A → Parser A
pure a = λ s. Ok (a, s)

abbrev pub taken : {A : Type 0} → Option A → Lexemes → ℕ → Outcome A
taken (Some a) s n = Ok (a, s)
taken None s n = Err n

abbrev pub take : {A : Type 0} → (Lexeme → Option A) → Parser A
take f [] = Err 0
take f (t ∷ s) = taken (f t) s (suc (length s))

abbrev pub choose : {A : Type 0} → Bool → A → A → A
choose true x y = x
choose false x y = y

-- by the next lexeme's kind
abbrev pub branch : {A : Type 0} → Kinds → Parser A → Parser A → Parser A
branch ks p q = λ s. choose (sees ks s) (p s) (q s)

-- rounds while the next lexeme is of one of these kinds
abbrev pub rounds_by : {X : Type 0} → Kinds → (X → Parser X) → ℕ → X → Parser X
rounds_by ks step zero x = pure x
rounds_by ks step (suc n) x = branch ks (step x >>= rounds_by ks step n) (pure x)

-- each round takes a lexeme
unfoldable pub repeat_by : {X : Type 0} → Kinds → (X → Parser X) → X → Parser X
repeat_by ks step x = λ s. rounds_by ks step (length s) x s

abbrev pub ended_at : {A : Type 0} → A → Lexemes → Result A ℕ
ended_at a [] = Ok a
ended_at a (t ∷ r) = Err (suc (length r))

-- the lexemes as a whole
abbrev pub ended : {A : Type 0} → Outcome A → Result A ℕ
ended (Ok x) = ended_at x.0 x.1
ended (Err k) = Err k
