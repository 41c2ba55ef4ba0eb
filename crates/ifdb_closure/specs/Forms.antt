-- decides: closures
-- How a line is read as CREATE CLOSURE or CALL.
use Rattle.std.specs.Prelude.{◌≡◌, ℕ, Bool, true, false, ◌||◌, ◌&&◌, ◌==◌, not, nat_lt, List, [], ◌∷◌, length, drop, slice_range, Option, Some, None, Result, Ok, Err, if◌then◌else◌}
use Rattle.std.specs.List.{list_all, list_any}
use Rattle.ifdb_lex.specs.declared.token.Token.{Token}
use Rattle.ifdb_lex.specs.declared.token.TokenKind.{TokenKind}
use Rattle.ifdb_lex.specs.declared.token.TokenKind.TheVariants as kind
use Rattle.ifdb_lex.specs.declared.fault.LexFault.{LexFault}
use Rattle.ifdb_lex.specs.Line.{is_blank, without_return}
use Rattle.ifdb_lex.specs.Lex.{lexed}
use Rattle.ifdb_syntax.specs.declared.request.Request.{Request}
use Rattle.ifdb_syntax.specs.declared.lexeme.Lexeme.{Lexeme}
use Rattle.ifdb_syntax.specs.declared.lexeme.Lexeme.TheVariants as t
use Rattle.ifdb_syntax.specs.Words.{Lexemes}
use Rattle.ifdb_parse.specs.declared.fault.ParseFault.{ParseFault}
use Rattle.ifdb_parse.specs.declared.fault.ParseFault.TheVariants as unread
use Rattle.ifdb_parse.specs.Lexemes.{lexemes_of}
use Rattle.ifdb_parse.specs.Parsed.{parsed}
use Rattle.ifdb_wire.specs.declared.fault.Fault.{Fault}
use Rattle.ifdb_wire.specs.declared.fault.Fault.TheVariants as fault
use Rattle.ifdb_model.specs.Step.{form_of}
use Rattle.ifdb_closure.specs.declared.form.Form.{Form}
use Rattle.ifdb_closure.specs.declared.form.Form.TheVariants as form
use Rattle.ifdb_closure.specs.declared.statements.Found.{Found}
use Rattle.ifdb_closure.specs.declared.statements.Found.TheVariants as found
use Rattle.ifdb_closure.specs.Closures.{ClosureLine, plain, faulty, creates, calls}
use Rattle.ifdb_closure.specs.Bounds.{is_inner_form}

-- ---- statements

-- a semicolon, which is 59
abbrev pub is_semicolon : TokenKind → Bool
is_semicolon (kind.Symbol b) = b == 59
is_semicolon _ = false

-- the last statement; behind a semicolon there need be none
abbrev pub last_statement : Bool → List ℕ → List (List ℕ)
last_statement behind text = if behind && list_all is_blank text then [] else text ∷ []

-- the statements of a line from a place on, parted by the semicolons among these tokens; a semicolon stands before them, or not
abbrev pub statements_from : List ℕ → Bool → ℕ → List Token → List (List ℕ)
statements_from line behind at [] = last_statement behind (drop at line)
statements_from line behind at (token ∷ tokens) =
    if is_semicolon token.kind then slice_range line at token.start ∷ statements_from line true token.end tokens
    else statements_from line behind at tokens

-- it isn't read as a request that a closure may have
abbrev pub is_misread : Result Request ParseFault → Bool
is_misread (Ok r) = not (is_inner_form (form_of r))
is_misread (Err (unread.Syntax at)) = true
is_misread (Err _) = false

-- it passes a limit of requests
abbrev pub is_beyond : Result Request ParseFault → Bool
is_beyond (Err unread.Limit) = true
is_beyond _ = false

-- why these are no statements of a closure: one of them is misread; or they are more than 64, or one passes a limit
abbrev pub statements_fault : List (List ℕ) → Option Fault
statements_fault statements =
    if list_any (λ s. is_misread (parsed s)) statements then Some (fault.Syntax 0)
    else (if nat_lt 64 (length statements) || list_any (λ s. is_beyond (parsed s)) statements then Some fault.Limit else None)

-- ---- the two forms

-- a lexeme is this one
abbrev pub is_call : Lexeme → Bool
is_call t.Call = true
is_call _ = false

abbrev pub is_create : Lexeme → Bool
is_create t.Create = true
is_create _ = false

abbrev pub is_closure : Lexeme → Bool
is_closure t.Closure = true
is_closure _ = false

abbrev pub is_as : Lexeme → Bool
is_as t.As = true
is_as _ = false

abbrev pub is_end : Lexeme → Bool
is_end t.Semicolon = true
is_end _ = false

-- the name that it says
abbrev pub name_in : Lexeme → Option (List ℕ)
name_in (t.Name name) = Some name
name_in _ = None

-- behind CALL: a name, and a semicolon or nothing
abbrev pub called_as : Option (List ℕ) → Bool → ClosureLine
called_as (Some name) true = calls name
called_as _ _ = faulty (fault.Syntax 0)

abbrev pub call_form : Lexemes → ClosureLine
call_form (name ∷ []) = called_as (name_in name) true
call_form (name ∷ last ∷ []) = called_as (name_in name) (is_end last)
call_form _ = faulty (fault.Syntax 0)

abbrev pub created_as : List ℕ → List (List ℕ) → Option Fault → ClosureLine
created_as name statements None = creates name statements
created_as name statements (Some f) = faulty f

-- CREATE CLOSURE of a name, with the statements of a line from a place on
abbrev pub created_from : List ℕ → List ℕ → ℕ → List Token → ClosureLine
created_from name line at tokens = created_as name (statements_from line false at tokens) (statements_fault (statements_from line false at tokens))

-- where these are a name and AS
abbrev pub created_if : Option (List ℕ) → Bool → List ℕ → ℕ → List Token → ClosureLine
created_if (Some name) true line at tokens = created_from name line at tokens
created_if _ _ line at tokens = faulty (fault.Syntax 0)

-- behind CREATE CLOSURE: a name, AS, and statements
abbrev pub create_form : List ℕ → List Token → Lexemes → ClosureLine
create_form line (t1 ∷ t2 ∷ t3 ∷ t4 ∷ tokens) (name ∷ second ∷ lexemes) = created_if (name_in name) (is_as second) line t4.end tokens
create_form line tokens lexemes = faulty (fault.Syntax 0)

-- behind CREATE
abbrev pub form_behind_create : List ℕ → List Token → Lexemes → ClosureLine
form_behind_create line tokens [] = plain
form_behind_create line tokens (second ∷ lexemes) = if is_closure second then create_form line tokens lexemes else plain

-- a line with these tokens, which say this
abbrev pub form_of_lexemes : List ℕ → List Token → Lexemes → ClosureLine
form_of_lexemes line tokens [] = plain
form_of_lexemes line tokens (first ∷ lexemes) =
    if is_call first then call_form lexemes
    else (if is_create first then form_behind_create line tokens lexemes else plain)

-- a line whose tokens have a fault is the server's, which tells the fault
abbrev pub form_of_tokens : List ℕ → Result (List Token) LexFault → ClosureLine
form_of_tokens line (Err f) = plain
form_of_tokens line (Ok tokens) = form_of_lexemes line tokens (lexemes_of line tokens)

-- what a line is, once one `\r` at its end is dropped
abbrev pub closure_form : List ℕ → ClosureLine
closure_form line = form_of_tokens (without_return line) (lexed line)

-- ---- in code

abbrev pub said : Form → ClosureLine
said form.Plain = plain
said (form.Faulty f) = faulty f
said (form.Creates name statements) = creates name statements
said (form.Calls name) = calls name

-- a statement was found so
abbrev pub IsFoundAs : Result Request ParseFault → Found → Type 0
IsFoundAs p found.Inner = (is_misread p ≡ false) × (is_beyond p ≡ false)
IsFoundAs p found.Misread = is_misread p ≡ true
IsFoundAs p found.Beyond = (is_misread p ≡ false) × (is_beyond p ≡ true)
