-- The two forms are read as the grammar has them.
use Rattle.std.proofs.Common.{◌≡◌, ℕ, zero, suc, ◌≤◌, ◌<◌, Bool, true, false, List, [], ◌∷◌, ◌++◌, length, refl, sym, ap, subst, ◌∙◌, arith, cond, Some, None, Ok, Err, Option, Result, inl, inr}
use Rattle.std.specs.Prelude.{All, ◌↔◌, ◌⊎◌, ◌||◌, not, nat_lt, slice_index_or}
use Rattle.std.specs.List.{list_any}
use Rattle.std.proofs.lemmas.Bool.{false≢true, lt-ltb, cases_lt}
use Rattle.std.proofs.lemmas.Bool.Decides.{nat_tests}
use Rattle.std.proofs.lemmas.List.Elements.{All-nil, All-head, All-tail}
use Rattle.ifdb_lex.specs.declared.token.Token.{Token}
use Rattle.ifdb_lex.specs.declared.fault.LexFault.{LexFault}
use Rattle.ifdb_lex.specs.Line.{without_return}
use Rattle.ifdb_lex.specs.Lex.{lexed}
use Rattle.ifdb_syntax.specs.declared.lexeme.Lexeme.{Lexeme}
use Rattle.ifdb_syntax.specs.declared.lexeme.Lexeme.TheVariants as t
use Rattle.ifdb_syntax.specs.declared.request.Request.{Request}
use Rattle.ifdb_syntax.specs.Words.{Lexemes, is, name_of, AS, CALL, CLOSURE, CREATE, SEMICOLON}
use Rattle.ifdb_syntax.specs.Lang.{Then, ◌>>◌, ◌>>=◌, ◌or◌, nothing, token}
use Rattle.ifdb_parse.specs.declared.fault.ParseFault.{ParseFault}
use Rattle.ifdb_parse.specs.declared.fault.ParseFault.TheVariants as unread
use Rattle.ifdb_parse.specs.Lexemes.{lexeme_of, lexemes_of}
use Rattle.ifdb_parse.specs.Parsed.{parsed}
use Rattle.ifdb_parse.specs.Laws.{IsRequest}
use Rattle.ifdb_parse.proofs.written.Parsed.{parsed_is_request}
use Rattle.ifdb_wire.specs.declared.fault.Fault.{Fault}
use Rattle.ifdb_wire.specs.declared.fault.Fault.TheVariants as fault
use Rattle.ifdb_model.specs.Step.{form_of}
use Rattle.ifdb_laws.specs.StepLaws.{lacks_memory}
use Rattle.ifdb_db.specs.Reading.{request_or_fault}
use Rattle.ifdb_db.proofs.Spares.{read_spares}
use Rattle.ifdb_closure.specs.Closures.{ClosureLine, plain, faulty, creates, calls}
use Rattle.ifdb_closure.specs.Bounds.{is_inner_form}
use Rattle.ifdb_closure.specs.Forms.{is_call, is_create, is_closure, is_as, is_end, name_in, is_misread, is_beyond, statements_from, statements_fault, called_as, call_form, created_as, created_if, create_form, form_behind_create, form_of_lexemes, form_of_tokens, closure_form}
use Rattle.ifdb_closure.specs.Grammar.{call, create_head, IsCall, IsInner, IsCreate, CallsAreRead, CreatesAreRead}

-- ---- lexemes

call_so : (x : Lexeme) → is_call x ≡ true → is CALL x ≡ Some tt
call_so t.Call e = refl
call_so _ e = absurd (false≢true e)

create_so : (x : Lexeme) → is_create x ≡ true → is CREATE x ≡ Some tt
create_so t.Create e = refl
create_so _ e = absurd (false≢true e)

closure_so : (x : Lexeme) → is_closure x ≡ true → is CLOSURE x ≡ Some tt
closure_so t.Closure e = refl
closure_so _ e = absurd (false≢true e)

as_so : (x : Lexeme) → is_as x ≡ true → is AS x ≡ Some tt
as_so t.As e = refl
as_so _ e = absurd (false≢true e)

end_so : (x : Lexeme) → is_end x ≡ true → is SEMICOLON x ≡ Some tt
end_so t.Semicolon e = refl
end_so _ e = absurd (false≢true e)

name_so : (x : Lexeme) → name_in x ≡ name_of x
name_so (t.Name name) = refl
name_so _ = refl

-- and back
call_back : (x : Lexeme) → is CALL x ≡ Some tt → is_call x ≡ true
call_back t.Call e = refl
call_back _ e = absurd (cc)

create_back : (x : Lexeme) → is CREATE x ≡ Some tt → is_create x ≡ true
create_back t.Create e = refl
create_back _ e = absurd (cc)

no_call : (x : Lexeme) → is CREATE x ≡ Some tt → is_call x ≡ false
no_call t.Call e = absurd (cc)
no_call _ e = refl

closure_back : (x : Lexeme) → is CLOSURE x ≡ Some tt → is_closure x ≡ true
closure_back t.Closure e = refl
closure_back _ e = absurd (cc)

as_back : (x : Lexeme) → is AS x ≡ Some tt → is_as x ≡ true
as_back t.As e = refl
as_back _ e = absurd (cc)

end_back : (x : Lexeme) → is SEMICOLON x ≡ Some tt → is_end x ≡ true
end_back t.Semicolon e = refl
end_back _ e = absurd (cc)

-- ---- which form it is

abbrev NoCalls : ClosureLine → Type 0
NoCalls (calls name) = ⊥
NoCalls _ = Unit {0}

created_no : (name : List ℕ) (statements : List (List ℕ)) (o : Option Fault) → NoCalls (created_as name statements o)
created_no name statements None = tt
created_no name statements (Some f) = tt

if_no : (o : Option (List ℕ)) (b : Bool) (line : List ℕ) (at : ℕ) (tokens : List Token) → NoCalls (created_if o b line at tokens)
if_no (Some name) true line at tokens = created_no name (statements_from line false at tokens) (statements_fault (statements_from line false at tokens))
if_no (Some name) false line at tokens = tt
if_no None b line at tokens = tt

create_no : (line : List ℕ) (tokens : List Token) (lexemes : Lexemes) → NoCalls (create_form line tokens lexemes)
create_no line (t1 ∷ t2 ∷ t3 ∷ t4 ∷ tokens) (name ∷ second ∷ lexemes) = if_no (name_in name) (is_as second) line t4.end tokens
create_no line [] lexemes = tt
create_no line (t1 ∷ []) lexemes = tt
create_no line (t1 ∷ t2 ∷ []) lexemes = tt
create_no line (t1 ∷ t2 ∷ t3 ∷ []) lexemes = tt
create_no line (t1 ∷ t2 ∷ t3 ∷ t4 ∷ tokens) [] = tt
create_no line (t1 ∷ t2 ∷ t3 ∷ t4 ∷ tokens) (name ∷ []) = tt

pick_no : (b : Bool) (f g : ClosureLine) → NoCalls f → NoCalls g → NoCalls (cond b f g)
pick_no true f g h k = h
pick_no false f g h k = k

behind_no : (line : List ℕ) (tokens : List Token) (lexemes : Lexemes) → NoCalls (form_behind_create line tokens lexemes)
behind_no line tokens [] = tt
behind_no line tokens (second ∷ lexemes) = pick_no (is_closure second) (create_form line tokens lexemes) plain (create_no line tokens lexemes) tt

none_named : (f : ClosureLine) (name : List ℕ) → NoCalls f → f ≡ calls name → ⊥
none_named f name h e = subst NoCalls e h

-- ---- CALL

-- the lexemes that CALL is spelled with
called_word : (x y : Lexeme) (name : List ℕ) → is CALL x ≡ Some tt → name_of y ≡ Some name → call (x ∷ y ∷ []) name
called_word x y name e k = record {
  front = x ∷ [];
  back = y ∷ [];
  value = tt;
  parts = refl;
  first = (x, refl, e);
  second = record { front = y ∷ []; back = []; value = name; parts = refl; first = (y, refl, k); second = inr (refl, refl) };
}

called_end : (x y z : Lexeme) (name : List ℕ) → is CALL x ≡ Some tt → name_of y ≡ Some name → is SEMICOLON z ≡ Some tt → call (x ∷ y ∷ z ∷ []) name
called_end x y z name e k last = record {
  front = x ∷ [];
  back = y ∷ z ∷ [];
  value = tt;
  parts = refl;
  first = (x, refl, e);
  second = record {
    front = y ∷ [];
    back = z ∷ [];
    value = name;
    parts = refl;
    first = (y, refl, k);
    second = inl (record { front = z ∷ []; back = []; value = tt; parts = refl; first = (z, refl, last); second = (refl, refl) });
  };
}

-- of a name and what it ends with
as_named : (o : Option (List ℕ)) (b : Bool) (name : List ℕ) → called_as o b ≡ calls name → (o ≡ Some name) × (b ≡ true)
as_named (Some n) true name e = let same : n ≡ name = cc in (ap Some same, refl)
as_named (Some n) false name e = absurd (cc)
as_named None b name e = absurd (cc)

call_spelled : (x : Lexeme) (rest : Lexemes) (name : List ℕ) → is CALL x ≡ Some tt → call_form rest ≡ calls name → call (x ∷ rest) name
call_spelled x [] name c e = absurd (cc)
call_spelled x (y ∷ []) name c e = called_word x y name c (sym (name_so y) ∙ (as_named (name_in y) true name e).0)
call_spelled x (y ∷ z ∷ []) name c e =
    let both = as_named (name_in y) (is_end z) name e in
    called_end x y z name c (sym (name_so y) ∙ both.0) (end_so z both.1)
call_spelled x (y ∷ z ∷ other ∷ more) name c e = absurd (cc)

lexemes_spelled : (line : List ℕ) (tokens : List Token) (lexemes : Lexemes) (name : List ℕ) → form_of_lexemes line tokens lexemes ≡ calls name → call lexemes name
lexemes_spelled line tokens [] name e = absurd (cc)
lexemes_spelled line tokens (first ∷ rest) name e = by (is_call first) refl e where
  by : (b : Bool) → is_call first ≡ b → cond b (call_form rest) (cond (is_create first) (form_behind_create line tokens rest) plain) ≡ calls name → call (first ∷ rest) name
  by true c k = call_spelled first rest name (call_so first c) k
  by false c k =
      absurd (none_named (cond (is_create first) (form_behind_create line tokens rest) plain) name
      (pick_no (is_create first) (form_behind_create line tokens rest) plain (behind_no line tokens rest) tt) k)

-- and back
call_ends : (v : List ℕ) (y : Lexeme) (back : Lexemes) (name : List ℕ) → ((token SEMICOLON >> nothing v) or nothing v) back name → name_in y ≡ Some v → call_form (y ∷ back) ≡ calls name
call_ends v y back name (inl f) e =
    let z = f.first.0 in
    let rest : back ≡ z ∷ [] = f.parts ∙ (λ i. f.first.1 i ++ f.second.0 i) in
    ap (λ b. call_form (y ∷ b)) rest ∙ (λ i. called_as (e i) (end_back z f.first.2 i)) ∙ ap calls (sym f.second.1)
call_ends v y back name (inr h) e = ap (λ b. call_form (y ∷ b)) h.0 ∙ ap (λ o. called_as o true) e ∙ ap calls (sym h.1)

call_read : (line : List ℕ) (tokens : List Token) (lexemes : Lexemes) (name : List ℕ) → call lexemes name → form_of_lexemes line tokens lexemes ≡ calls name
call_read line tokens lexemes name c =
    let x = c.first.0 in
    let y = c.second.first.0 in
    let back = c.second.back in
    let whole : lexemes ≡ x ∷ y ∷ back = c.parts ∙ (λ i. c.first.1 i ++ c.back) ∙ ap (λ b. x ∷ b) (c.second.parts ∙ (λ i. c.second.first.1 i ++ back)) in
    ap (form_of_lexemes line tokens) whole
    ∙ ap (λ b. cond b (call_form (y ∷ back)) (cond (is_create x) (form_behind_create line tokens (y ∷ back)) plain)) (call_back x c.first.2)
    ∙ call_ends c.second.value y back name c.second.second (name_so y ∙ c.second.first.2)

-- what the tokens of a line are
pub calls_are_read : CallsAreRead
calls_are_read line name = (
  λ e. by (lexed line) refl e,
  λ c. ap (form_of_tokens (without_return line)) c.read ∙ call_read (without_return line) c.tokens (lexemes_of (without_return line) c.tokens) name c.spelled,
) where
  by : (o : Result (List Token) LexFault) → lexed line ≡ o → form_of_tokens (without_return line) o ≡ calls name → IsCall line name
  by (Err f) read e = absurd (cc)
  by (Ok tokens) read e =
      record { tokens = tokens; read = read; spelled = lexemes_spelled (without_return line) tokens (lexemes_of (without_return line) tokens) name e }

-- ---- CREATE CLOSURE

abbrev NoCreates : ClosureLine → Type 0
NoCreates (creates name statements) = ⊥
NoCreates _ = Unit {0}

none_created : (f : ClosureLine) (name : List ℕ) (statements : List (List ℕ)) → NoCreates f → f ≡ creates name statements → ⊥
none_created f name statements h e = subst NoCreates e h

called_none : (o : Option (List ℕ)) (b : Bool) → NoCreates (called_as o b)
called_none (Some name) true = tt
called_none (Some name) false = tt
called_none None b = tt

call_none : (lexemes : Lexemes) → NoCreates (call_form lexemes)
call_none [] = tt
call_none (name ∷ []) = called_none (name_in name) true
call_none (name ∷ last ∷ []) = called_none (name_in name) (is_end last)
call_none (name ∷ last ∷ other ∷ more) = tt

-- the head that four lexemes say
head_said : (x y z v : Lexeme) (name : List ℕ) → is CREATE x ≡ Some tt → is CLOSURE y ≡ Some tt → name_of z ≡ Some name → is AS v ≡ Some tt
    → create_head (x ∷ y ∷ z ∷ v ∷ []) name
head_said x y z v name a b c d = record {
  front = x ∷ [];
  back = y ∷ z ∷ v ∷ [];
  value = tt;
  parts = refl;
  first = (x, refl, a);
  second = record {
    front = y ∷ [];
    back = z ∷ v ∷ [];
    value = tt;
    parts = refl;
    first = (y, refl, b);
    second = record {
      front = z ∷ [];
      back = v ∷ [];
      value = name;
      parts = refl;
      first = (z, refl, c);
      second = record { front = v ∷ []; back = []; value = tt; parts = refl; first = (v, refl, d); second = (refl, refl) };
    };
  };
}

-- statements without a fault are inner ones
parsed_inner : (s : List ℕ) (o : Result Request ParseFault) → parsed s ≡ o → is_misread o ≡ false → is_beyond o ≡ false → IsInner s
parsed_inner s (Ok r) e m b = record { request = r; read = (parsed_is_request s r).0 e; inner = inner (is_inner_form (form_of r)) m } where
  inner : (c : Bool) → not c ≡ false → c ≡ true
  inner true k = refl
  inner false k = absurd (false≢true (sym k))
parsed_inner s (Err (unread.Syntax at)) e m b = absurd (false≢true (sym m))
parsed_inner s (Err unread.Limit) e m b = absurd (false≢true (sym b))
parsed_inner s (Err unread.OutOfMemory) e m b = absurd (false≢true (sym (read_spares s) ∙ ap (λ o. lacks_memory (request_or_fault o)) e))

none_of : (c d : Bool) → (c || d) ≡ false → (c ≡ false) × (d ≡ false)
none_of true d e = absurd (false≢true (sym e))
none_of false d e = (refl, e)

all_cons : {X : Type 0} (P : X → Type 0) (x : X) (xs : List X) → P x → All P xs → All P (x ∷ xs)
all_cons P x xs h rest zero d lt = h
all_cons P x xs h rest (suc k) d lt = rest k d (omega (arith, lt))

all_inner : (statements : List (List ℕ)) → list_any (λ s. is_misread (parsed s)) statements ≡ false → list_any (λ s. is_beyond (parsed s)) statements ≡ false → All IsInner statements
all_inner [] m b = All-nil IsInner
all_inner (s ∷ statements) m b =
    let ms = none_of (is_misread (parsed s)) (list_any (λ x. is_misread (parsed x)) statements) m in
    let bs = none_of (is_beyond (parsed s)) (list_any (λ x. is_beyond (parsed x)) statements) b in
    all_cons IsInner s statements (parsed_inner s (parsed s) refl ms.0 bs.0) (all_inner statements ms.1 bs.1)

record Faultless (statements : List (List ℕ)) : Type 0 where
  each : All IsInner statements
  few : length statements ≤ 64

at_most : (n : ℕ) → nat_lt 64 n ≡ false → n ≤ 64
at_most n e = elim (cases_lt 64 n) [ inl lt ↦ absurd (false≢true (sym e ∙ lt-ltb 64 n lt)) | inr le ↦ le ]

faultless : (statements : List (List ℕ)) → statements_fault statements ≡ None → Faultless statements
faultless statements e = by (list_any (λ s. is_misread (parsed s)) statements) refl (nat_lt 64 (length statements) || list_any (λ s. is_beyond (parsed s)) statements) refl e where
  by : (m : Bool) → list_any (λ s. is_misread (parsed s)) statements ≡ m → (b : Bool) → (nat_lt 64 (length statements) || list_any (λ s. is_beyond (parsed s)) statements) ≡ b
      → cond m (Some (fault.Syntax 0)) (cond b (Some fault.Limit) None) ≡ None → Faultless statements
  by true me b be h = absurd (cc)
  by false me true be h = absurd (cc)
  by false me false be h =
      let parts = none_of (nat_lt 64 (length statements)) (list_any (λ s. is_beyond (parsed s)) statements) be in
      record { each = all_inner statements me parts.1; few = at_most (length statements) parts.0 }

-- and back
inner_parsed : (s : List ℕ) → IsInner s → (is_misread (parsed s) ≡ false) × (is_beyond (parsed s) ≡ false)
inner_parsed s h =
    let e = (parsed_is_request s h.request).1 h.read in
    (ap is_misread e ∙ ap not h.inner, ap is_beyond e)

none_misread : (statements : List (List ℕ)) → All IsInner statements
    → (list_any (λ s. is_misread (parsed s)) statements ≡ false) × (list_any (λ s. is_beyond (parsed s)) statements ≡ false)
none_misread [] h = (refl, refl)
none_misread (s ∷ statements) h =
    let one = inner_parsed s (All-head IsInner s statements h) in
    let rest = none_misread statements (All-tail IsInner s statements h) in
    ((λ i. one.0 i || rest.0 i), (λ i. one.1 i || rest.1 i))

few_so : (n : ℕ) → n ≤ 64 → nat_lt 64 n ≡ false
few_so n le = grind (arith, nat_tests)

no_fault : (statements : List (List ℕ)) → All IsInner statements → length statements ≤ 64 → statements_fault statements ≡ None
no_fault statements each few =
    let none = none_misread statements each in
    λ i. cond (none.0 i) (Some (fault.Syntax 0)) (cond (few_so (length statements) few i || none.1 i) (Some fault.Limit) None)

-- ---- a line that is CREATE CLOSURE

-- the lexeme at a place
abbrev nth : Lexemes → ℕ → Lexeme
nth lexemes k = slice_index_or lexemes k t.Call

made : (n name : List ℕ) (texts statements : List (List ℕ)) (o : Option Fault) → created_as n texts o ≡ creates name statements → (n ≡ name) × (texts ≡ statements) × (o ≡ None)
made n name texts statements None e = (cc, cc, refl)
made n name texts statements (Some f) e = absurd (cc)

-- the name of a lexeme that says one
named_if : (o : Option (List ℕ)) (b : Bool) (line : List ℕ) (at : ℕ) (tokens : List Token) (name : List ℕ) (statements : List (List ℕ)) → created_if o b line at tokens ≡ creates name statements
    → (o ≡ Some name) × (b ≡ true) × (statements ≡ statements_from line false at tokens) × (statements_fault statements ≡ None)
named_if (Some n) true line at tokens name statements e =
    let texts = statements_from line false at tokens in
    let m = made n name texts statements (statements_fault texts) e in
    (ap Some m.0, refl, sym m.1, ap statements_fault (sym m.1) ∙ m.2)
named_if (Some n) false line at tokens name statements e = absurd (cc)
named_if None b line at tokens name statements e = absurd (cc)

module _ (line : List ℕ) where
  abbrev l : List ℕ
  l = without_return line

  abbrev says : Token → Lexeme
  says token = lexeme_of l token

  create_spelled : (t1 t2 : Token) (tokens : List Token) (name : List ℕ) (statements : List (List ℕ)) → lexed line ≡ Ok (t1 ∷ t2 ∷ tokens) → is CREATE (says t1) ≡ Some tt → is CLOSURE (says t2) ≡ Some tt
      → create_form l (t1 ∷ t2 ∷ tokens) (lexemes_of l tokens) ≡ creates name statements → IsCreate line name statements
  create_spelled t1 t2 [] name statements read c k e = absurd (cc)
  create_spelled t1 t2 (t3 ∷ []) name statements read c k e = absurd (cc)
  create_spelled t1 t2 (t3 ∷ t4 ∷ behind) name statements read c k e =
      let n = named_if (name_in (says t3)) (is_as (says t4)) l t4.end behind name statements e in
      let f = faultless statements n.3 in
      record {
        create = t1;
        closure = t2;
        named = t3;
        as_word = t4;
        behind = behind;
        read = read;
        head = head_said (says t1) (says t2) (says t3) (says t4) name c k (sym (name_so (says t3)) ∙ n.0) (as_so (says t4) n.1);
        parted = n.2;
        each = f.each;
        few = f.few;
      }

  behind_spelled : (t1 : Token) (tokens : List Token) (name : List ℕ) (statements : List (List ℕ)) → lexed line ≡ Ok (t1 ∷ tokens) → is CREATE (says t1) ≡ Some tt
      → form_behind_create l (t1 ∷ tokens) (lexemes_of l tokens) ≡ creates name statements → IsCreate line name statements
  behind_spelled t1 [] name statements read c e = absurd (cc)
  behind_spelled t1 (t2 ∷ tokens) name statements read c e = by (is_closure (says t2)) refl e where
    by : (b : Bool) → is_closure (says t2) ≡ b → cond b (create_form l (t1 ∷ t2 ∷ tokens) (lexemes_of l tokens)) plain ≡ creates name statements → IsCreate line name statements
    by true k h = create_spelled t1 t2 tokens name statements read c (closure_so (says t2) k) h
    by false k h = absurd (cc)

  tokens_spelled : (tokens : List Token) (name : List ℕ) (statements : List (List ℕ)) → lexed line ≡ Ok tokens → form_of_lexemes l tokens (lexemes_of l tokens) ≡ creates name statements
      → IsCreate line name statements
  tokens_spelled [] name statements read e = absurd (cc)
  tokens_spelled (t1 ∷ tokens) name statements read e = by (is_call (says t1)) (is_create (says t1)) refl e where
    by : (b c : Bool) → is_create (says t1) ≡ c
        → cond b (call_form (lexemes_of l tokens)) (cond c (form_behind_create l (t1 ∷ tokens) (lexemes_of l tokens)) plain) ≡ creates name statements → IsCreate line name statements
    by true c k h = absurd (none_created (call_form (lexemes_of l tokens)) name statements (call_none (lexemes_of l tokens)) h)
    by false true k h = behind_spelled t1 tokens name statements read (create_so (says t1) k) h
    by false false k h = absurd (cc)

  -- and back
  create_read : (name : List ℕ) (statements : List (List ℕ)) → (c : IsCreate line name statements)
      → form_of_lexemes l (c.create ∷ c.closure ∷ c.named ∷ c.as_word ∷ c.behind) (lexemes_of l (c.create ∷ c.closure ∷ c.named ∷ c.as_word ∷ c.behind)) ≡ creates name statements
  create_read name statements c =
      let h = c.head in
      let four : says c.create ∷ says c.closure ∷ says c.named ∷ says c.as_word ∷ [] ≡ h.first.0 ∷ h.second.first.0 ∷ h.second.second.first.0 ∷ h.second.second.second.first.0 ∷ [] =
      h.parts ∙ (λ i. h.first.1 i ++ h.back)
      ∙ ap (λ b. h.first.0 ∷ b) (h.second.parts ∙ (λ i. h.second.first.1 i ++ h.second.back))
      ∙ ap (λ b. h.first.0 ∷ h.second.first.0 ∷ b) (h.second.second.parts ∙ (λ i. h.second.second.first.1 i ++ h.second.second.back))
      ∙ ap (λ b. h.first.0 ∷ h.second.first.0 ∷ h.second.second.first.0 ∷ b)
      (h.second.second.second.parts ∙ (λ i. h.second.second.second.first.1 i ++ h.second.second.second.second.0 i)) in
      let x : is CREATE (says c.create) ≡ Some tt = ap (λ ls. is CREATE (nth ls 0)) four ∙ h.first.2 in
      let y : is CLOSURE (says c.closure) ≡ Some tt = ap (λ ls. is CLOSURE (nth ls 1)) four ∙ h.second.first.2 in
      let z : name_in (says c.named) ≡ Some name =
      ap (λ ls. name_in (nth ls 2)) four ∙ name_so h.second.second.first.0 ∙ h.second.second.first.2 ∙ ap Some (sym h.second.second.second.second.1) in
      let v : is_as (says c.as_word) ≡ true = ap (λ ls. is_as (nth ls 3)) four ∙ as_back h.second.second.second.first.0 h.second.second.second.first.2 in
      let tokens = c.create ∷ c.closure ∷ c.named ∷ c.as_word ∷ c.behind in
      let more = lexemes_of l c.behind in
      (λ i. cond (no_call (says c.create) x i) (call_form (says c.closure ∷ says c.named ∷ says c.as_word ∷ more))
      (cond (create_back (says c.create) x i) (cond (closure_back (says c.closure) y i) (create_form l tokens (says c.named ∷ says c.as_word ∷ more)) plain) plain))
      ∙ (λ i. created_if (z i) (v i) l c.as_word.end c.behind)
      ∙ (λ i. created_as name (sym c.parted i) (statements_fault (sym c.parted i)))
      ∙ ap (created_as name statements) (no_fault statements c.each c.few)

pub creates_are_read : CreatesAreRead
creates_are_read line name statements = (
  λ e. by (lexed line) refl e,
  λ c. ap (form_of_tokens (without_return line)) c.read ∙ create_read line name statements c,
) where
  by : (o : Result (List Token) LexFault) → lexed line ≡ o → form_of_tokens (without_return line) o ≡ creates name statements → IsCreate line name statements
  by (Err f) read e = absurd (cc)
  by (Ok tokens) read e = tokens_spelled line tokens name statements read e
