-- What a function of the parser returned: the outcome of the parser in the definitions, unless memory ran out.
use Rattle.std.specs.Prelude.{◌≡◌, ℕ, ◌<◌, ◌≤◌, length, Result, Ok, Err, IfOk}
use Rattle.std.specs.Borrow.{Bor}
use Rattle.ifdb_syntax.specs.Words.{Lexemes}
use Rattle.ifdb_parse.specs.declared.stop.Stop.{Stop}
use Rattle.ifdb_parse.specs.declared.stop.Stop.TheVariants as stop
use Rattle.ifdb_parse.specs.theory.Parser.{Outcome, Parser}

abbrev pub Fails : {Y : Type 0} → Stop → Result Y ℕ → Type 0
Fails stop.OutOfMemory outcome = Unit {0}
Fails (stop.Left n) outcome = outcome ≡ Err n

abbrev pub Gives : {X Y : Type 0} → (X → Y) → Result X Stop → Result Y ℕ → Type 0
Gives view (Ok x) outcome = outcome ≡ Ok (view x)
Gives view (Err e) outcome = Fails e outcome

-- what a function read, a value and the lexemes after it, is the parser's outcome
abbrev pub IsRead : {A : Type 0} → Result (A × Bor Lexemes) Stop → Outcome A → Type 0
IsRead result outcome = Gives (λ x. (x.0, x.1.now)) result outcome

-- what was read leaves fewer lexemes than these
abbrev pub IsShorter : {A : Type 0} → Result (A × Bor Lexemes) Stop → Lexemes → Type 0
IsShorter result lexemes = IfOk result (λ x. length x.1.now < length lexemes)

-- what was read leaves no more lexemes than these
abbrev pub IsNoLonger : {A : Type 0} → Result (A × Bor Lexemes) Stop → Lexemes → Type 0
IsNoLonger result lexemes = IfOk result (λ x. length x.1.now ≤ length lexemes)

-- what a parser reads takes a lexeme
abbrev pub Takes : {A : Type 0} → Parser A → Type 0
Takes {A} p = (s : Lexemes) (x : A) (rest : Lexemes) → p s ≡ Ok (x, rest) → length rest < length s
