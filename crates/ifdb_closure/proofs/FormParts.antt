-- What a line is to a script with closures, part by part: what is so of all statements and faults that the parts may give is so of the line.
use Rattle.std.proofs.Common.{◌≡◌, ℕ, Bool, true, false, List, [], ◌∷◌, refl, cond, Some, None, Ok, Err, Option, Result}
use Rattle.std.specs.Prelude.{◌||◌, nat_lt, length}
use Rattle.std.specs.List.{list_any}
use Rattle.ifdb_lex.specs.declared.token.Token.{Token}
use Rattle.ifdb_lex.specs.declared.fault.LexFault.{LexFault}
use Rattle.ifdb_lex.specs.Line.{without_return}
use Rattle.ifdb_lex.specs.Lex.{lexed}
use Rattle.ifdb_syntax.specs.Words.{Lexemes}
use Rattle.ifdb_parse.specs.Lexemes.{lexemes_of}
use Rattle.ifdb_parse.specs.Parsed.{parsed}
use Rattle.ifdb_wire.specs.declared.fault.Fault.{Fault}
use Rattle.ifdb_wire.specs.declared.fault.Fault.TheVariants as fault
use Rattle.ifdb_closure.specs.Closures.{ClosureLine, plain, faulty, creates, calls}
use Rattle.ifdb_closure.specs.Forms.{is_call, is_create, is_closure, is_as, is_end, name_in, is_misread, is_beyond, statements_from, statements_fault, called_as, call_form, created_as, created_if, create_form, form_behind_create, form_of_lexemes, form_of_tokens, closure_form}

-- this holds of the statements of CREATE CLOSURE, and that of a fault
abbrev pub OfForm : (List (List ℕ) → Type 0) → (Fault → Type 0) → ClosureLine → Type 0
OfForm P Q plain = Unit {0}
OfForm P Q (faulty f) = Q f
OfForm P Q (creates name statements) = P statements
OfForm P Q (calls name) = Unit {0}

module _ (P : List (List ℕ) → Type 0) (Q : Fault → Type 0) (syntax_fault : Q (fault.Syntax 0)) (limit_fault : Q fault.Limit) where
  pick : (b : Bool) (f g : ClosureLine) → OfForm P Q f → OfForm P Q g → OfForm P Q (cond b f g)
  pick true f g h k = h
  pick false f g h k = k

  -- ---- CALL

  called_parts : (o : Option (List ℕ)) (b : Bool) → OfForm P Q (called_as o b)
  called_parts (Some name) true = tt
  called_parts (Some name) false = syntax_fault
  called_parts None b = syntax_fault

  call_parts : (lexemes : Lexemes) → OfForm P Q (call_form lexemes)
  call_parts [] = syntax_fault
  call_parts (name ∷ []) = called_parts (name_in name) true
  call_parts (name ∷ last ∷ []) = called_parts (name_in name) (is_end last)
  call_parts (name ∷ last ∷ other ∷ more) = syntax_fault

  -- ---- CREATE CLOSURE

  created_parts : (name : List ℕ) (statements : List (List ℕ)) → (statements_fault statements ≡ None → P statements) → OfForm P Q (created_as name statements (statements_fault statements))
  created_parts name statements h = misread (list_any (λ s. is_misread (parsed s)) statements) refl where
    misread : (m : Bool) → list_any (λ s. is_misread (parsed s)) statements ≡ m → OfForm P Q (created_as name statements (statements_fault statements))
    misread true e = rw e syntax_fault
    misread false e = beyond (nat_lt 64 (length statements) || list_any (λ s. is_beyond (parsed s)) statements) refl where
      beyond : (b : Bool) → (nat_lt 64 (length statements) || list_any (λ s. is_beyond (parsed s)) statements) ≡ b → OfForm P Q (created_as name statements (statements_fault statements))
      beyond true k = rw (e, k) limit_fault
      beyond false k = rw (e, k) (h (rw (e, k) refl))

  module _ (line : List ℕ) (holds : (at : ℕ) (tokens : List Token) → statements_fault (statements_from line false at tokens) ≡ None → P (statements_from line false at tokens)) where
    if_parts : (o : Option (List ℕ)) (b : Bool) (at : ℕ) (tokens : List Token) → OfForm P Q (created_if o b line at tokens)
    if_parts (Some name) true at tokens = created_parts name (statements_from line false at tokens) (holds at tokens)
    if_parts (Some name) false at tokens = syntax_fault
    if_parts None b at tokens = syntax_fault

    create_parts : (tokens : List Token) (lexemes : Lexemes) → OfForm P Q (create_form line tokens lexemes)
    create_parts (t1 ∷ t2 ∷ t3 ∷ t4 ∷ tokens) (name ∷ second ∷ lexemes) = if_parts (name_in name) (is_as second) t4.end tokens
    create_parts [] lexemes = syntax_fault
    create_parts (t1 ∷ []) lexemes = syntax_fault
    create_parts (t1 ∷ t2 ∷ []) lexemes = syntax_fault
    create_parts (t1 ∷ t2 ∷ t3 ∷ []) lexemes = syntax_fault
    create_parts (t1 ∷ t2 ∷ t3 ∷ t4 ∷ tokens) [] = syntax_fault
    create_parts (t1 ∷ t2 ∷ t3 ∷ t4 ∷ tokens) (name ∷ []) = syntax_fault

    behind_parts : (tokens : List Token) (lexemes : Lexemes) → OfForm P Q (form_behind_create line tokens lexemes)
    behind_parts tokens [] = tt
    behind_parts tokens (second ∷ lexemes) = pick (is_closure second) (create_form line tokens lexemes) plain (create_parts tokens lexemes) tt

    lexemes_parts : (tokens : List Token) (lexemes : Lexemes) → OfForm P Q (form_of_lexemes line tokens lexemes)
    lexemes_parts tokens [] = tt
    lexemes_parts tokens (first ∷ lexemes) =
        pick (is_call first) (call_form lexemes) (cond (is_create first) (form_behind_create line tokens lexemes) plain) (call_parts lexemes)
        (pick (is_create first) (form_behind_create line tokens lexemes) plain (behind_parts tokens lexemes) tt)

    tokens_parts : (o : Result (List Token) LexFault) → OfForm P Q (form_of_tokens line o)
    tokens_parts (Err f) = tt
    tokens_parts (Ok tokens) = lexemes_parts tokens (lexemes_of line tokens)

  pub line_parts : (line : List ℕ)
      → ((at : ℕ) (tokens : List Token) → statements_fault (statements_from (without_return line) false at tokens) ≡ None → P (statements_from (without_return line) false at tokens))
      → OfForm P Q (closure_form line)
  line_parts line holds = tokens_parts (without_return line) holds (lexed line)
