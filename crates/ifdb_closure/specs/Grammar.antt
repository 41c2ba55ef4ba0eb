-- The two forms as the grammar has them, and what it is for a line to be one of them.
use Rattle.std.specs.Prelude.{◌≡◌, ◌↔◌, ◌⊎◌, ◌≤◌, ℕ, Bool, true, false, List, [], ◌∷◌, ◌++◌, All, drop, length, Ok}
use Rattle.std.specs.List.{list_all}
use Rattle.ifdb_lex.specs.declared.token.Token.{Token}
use Rattle.ifdb_lex.specs.Line.{IsLaidOut, is_blank, without_return}
use Rattle.ifdb_lex.specs.Lex.{lexed}
use Rattle.ifdb_syntax.specs.declared.request.Request.{Request}
use Rattle.ifdb_syntax.specs.Words.{AS, CALL, CLOSURE, CREATE, SEMICOLON}
use Rattle.ifdb_syntax.specs.Lang.{Lang, ◌>>=◌, ◌>>◌, ◌or◌, nothing, token, name}
use Rattle.ifdb_parse.specs.Lexemes.{lexemes_of}
use Rattle.ifdb_parse.specs.Laws.{IsRequest}
use Rattle.ifdb_model.specs.Step.{form_of}
use Rattle.ifdb_closure.specs.Closures.{creates, calls}
use Rattle.ifdb_closure.specs.Bounds.{is_inner_form}
use Rattle.ifdb_closure.specs.Forms.{closure_form, statements_from}

-- ---- CALL name [;]

abbrev pub call : Lang (List ℕ)
call = do
  token CALL
  n ← name
  (do token SEMICOLON; nothing n) or nothing n

-- the line's tokens say it
pub record IsCall (line name : List ℕ) : Type 0 where
  pub tokens : List Token
  pub read : lexed line ≡ Ok tokens
  pub spelled : call (lexemes_of (without_return line) tokens) name

abbrev pub CallsAreRead : Type 0
CallsAreRead = (line name : List ℕ) → (closure_form line ≡ calls name) ↔ IsCall line name

-- ---- CREATE CLOSURE name AS inner {; inner} [;]

abbrev pub create_head : Lang (List ℕ)
create_head = do
  token CREATE
  token CLOSURE
  n ← name
  token AS
  nothing n

-- inner: a text that the grammar of requests reads as SELECT, INSERT, UPDATE, DELETE or SET LABEL, within the limits
pub record IsInner (text : List ℕ) : Type 0 where
  pub request : Request
  pub read : IsRequest text request
  pub inner : is_inner_form (form_of request) ≡ true

-- The line's first four tokens say the head. The texts between the semicolons among the tokens behind it are 1 to 64 inner ones.
pub record IsCreate (line name : List ℕ) (statements : List (List ℕ)) : Type 0 where
  pub create : Token
  pub closure : Token
  pub named : Token
  pub as_word : Token
  pub behind : List Token
  pub read : lexed line ≡ Ok (create ∷ closure ∷ named ∷ as_word ∷ behind)
  pub head : create_head (lexemes_of (without_return line) (create ∷ closure ∷ named ∷ as_word ∷ [])) name
  pub parted : statements ≡ statements_from (without_return line) false as_word.end behind
  pub each : All IsInner statements
  pub few : length statements ≤ 64

abbrev pub CreatesAreRead : Type 0
CreatesAreRead = (line name : List ℕ) (statements : List (List ℕ)) → (closure_form line ≡ creates name statements) ↔ IsCreate line name statements

-- ---- between semicolons

-- texts with a semicolon, which is 59, between each two
abbrev pub joined : List (List ℕ) → List ℕ
joined [] = []
joined (text ∷ []) = text
joined (text ∷ next ∷ texts) = text ++ 59 ∷ joined (next ∷ texts)

-- these bytes are the texts with a semicolon between each two, and may have one more with blanks behind it
abbrev pub AreJoined : List ℕ → List (List ℕ) → Type 0
AreJoined bytes texts = (bytes ≡ joined texts) ⊎ ((blanks : List ℕ) × (list_all is_blank blanks ≡ true) × (bytes ≡ joined texts ++ 59 ∷ blanks))

-- so it is of a line from a place on, whose tokens lie behind that place, and of the statements that its semicolons part
abbrev pub StatementsAreJoined : Type 0
StatementsAreJoined = (line : List ℕ) (at : ℕ) (tokens : List Token) → at ≤ length line → IsLaidOut line at tokens
    → AreJoined (drop at line) (statements_from line false at tokens)
