-- What a line that begins with SELECT or SHOW is read as.
use Rattle.std.proofs.Common.{◌≡◌, ℕ, [], ◌∷◌, refl, sym, subst}
use Rattle.std.specs.Prelude.{Bool, true, false, Ok, Err, ⊤}
use Rattle.ifdb_syntax.specs.declared.request.Request.{Request}
use Rattle.ifdb_syntax.specs.declared.request.Request.TheVariants as request
use Rattle.ifdb_syntax.specs.declared.select.Select.{Select}
use Rattle.ifdb_syntax.specs.declared.lexeme.Lexeme.TheVariants as t
use Rattle.ifdb_syntax.specs.Words.{Lexemes, SEMICOLON, LABEL}
use Rattle.ifdb_parse.specs.theory.Parser.{Outcome, Parser, and_then, ◌>>=◌, branch, pure, choose, ended, ended_at}
use Rattle.ifdb_parse.specs.theory.Kinds.{sees}
use Rattle.ifdb_parse.specs.rules.Shared.{token}
use Rattle.ifdb_parse.specs.rules.Queries.{select}
use Rattle.ifdb_parse.specs.rules.Requests.{request as a_request, session, authority, show_label, query, line, whole}
use Rattle.ifdb_replay.specs.FirstWord.{LooksOnly, SelectsOrShows}

-- what was found so far, with what is left
abbrev pub LooksSoFar : Outcome Request → Type 0
LooksSoFar (Err n) = ⊤
LooksSoFar (Ok x) = LooksOnly {E = ℕ} (Ok x.0)

query_looks : (out : Outcome Select) → LooksSoFar (and_then out (λ s rest. Ok (request.Select s, rest)))
query_looks (Err n) = tt
query_looks (Ok x) = tt

-- what is found, if something is, is x
abbrev pub Carries : Request → Outcome Request → Type 0
Carries x (Err n) = ⊤
Carries x (Ok y) = y.0 ≡ x

carried : {A : Type 0} (x : Request) (out : Outcome A) → Carries x (and_then out (λ _ rest. Ok (x, rest)))
carried x (Err n) = tt
carried x (Ok y) = refl

chosen : (x : Request) (b : Bool) (one other : Outcome Request) → Carries x one → Carries x other → Carries x (choose b one other)
chosen x true one other first second = first
chosen x false one other first second = second

ended_looks : (x : Request) → LooksOnly {E = ℕ} (Ok x) → (out : Outcome Request) → Carries x out → LooksOnly (ended out)
ended_looks x looks (Err n) carries = tt
ended_looks x looks (Ok y) carries = by_rest y.1
  where
    by_rest : (rest : Lexemes) → LooksOnly (ended_at y.0 rest)
    by_rest [] = subst (λ r. LooksOnly {E = ℕ} (Ok r)) (sym carries) looks
    by_rest (l ∷ rest) = tt

abbrev pub behind : Request → Parser Request
behind x = branch (SEMICOLON ∷ []) (token SEMICOLON >>= (λ _. pure x)) (pure x)

behind_carries : (x : Request) (rest : Lexemes) → Carries x (behind x rest)
behind_carries x rest = chosen x (sees (SEMICOLON ∷ []) rest) (and_then (token SEMICOLON rest) (λ _ more. Ok (x, more))) (Ok (x, rest)) (carried x (token SEMICOLON rest)) refl

line_looks : (out : Outcome Request) → LooksSoFar out → LooksOnly (ended (and_then out behind))
line_looks (Err n) looks = tt
line_looks (Ok y) looks = ended_looks y.0 looks (behind y.0 y.1) (behind_carries y.0 y.1)

select_looks : (s : Lexemes) → LooksSoFar (a_request (t.Select ∷ s))
unfolding a_request select query token
select_looks s = query_looks (select (t.Select ∷ s))

label_looks : {A : Type 0} (out : Outcome A) → LooksSoFar (and_then out (λ _ rest. Ok (request.ShowLabel, rest)))
label_looks (Err n) = tt
label_looks (Ok x) = tt

show_looks : (s : Lexemes) → LooksSoFar (a_request (t.Show ∷ s))
unfolding a_request session authority show_label token
show_looks s = label_looks (token LABEL s)

pub grammar : SelectsOrShows
unfolding whole line
grammar s = (line_looks (a_request (t.Select ∷ s)) (select_looks s), line_looks (a_request (t.Show ∷ s)) (show_looks s))
