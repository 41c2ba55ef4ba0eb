-- What a line is read as, by the written grammar alone.
use Rattle.std.proofs.Common.{◌≡◌, ℕ, Bool, true, false, List, [], ◌∷◌, ◌++◌, Result, Ok, Err, refl, sym, ap, subst, ◌∙◌, inl, inr, ◌⊎◌}
use Rattle.std.specs.Prelude.{not, if◌then◌else◌}
use Rattle.std.proofs.lemmas.Bool.{or_parts}
use Rattle.ifdb_lex.specs.declared.token.Token.{Token}
use Rattle.ifdb_lex.specs.declared.fault.LexFault.{LexFault}
use Rattle.ifdb_lex.specs.declared.fault.LexFault.TheVariants as lex
use Rattle.ifdb_lex.specs.Line.{without_return}
use Rattle.ifdb_lex.specs.Lex.{lexed}
use Rattle.ifdb_syntax.specs.declared.request.Request.{Request}
use Rattle.ifdb_syntax.specs.Words.{Lexemes}
use Rattle.ifdb_syntax.specs.Reading.{written, bounded}
use Rattle.ifdb_syntax.specs.Requests.{line}
use Rattle.ifdb_syntax.specs.Bounded.{bounded_request}
use Rattle.ifdb_syntax.specs.Fault.{Begins, IsFault}
use Rattle.ifdb_syntax.proofs.BoundedLine.{written_is_bounded, bounded_is_written}
use Rattle.ifdb_parse.specs.declared.fault.ParseFault.TheVariants as fault
use Rattle.ifdb_parse.specs.declared.limits.Before.TheVariants as before
use Rattle.ifdb_parse.specs.Lexemes.{lexemes_of}
use Rattle.ifdb_parse.specs.TreeLimits.{has_lone, exceeds_request, exceeds_tree}
use Rattle.ifdb_parse.specs.Numbers.{numbers_fit}
use Rattle.ifdb_parse.specs.Parsed.{place, parsed}
use Rattle.ifdb_parse.specs.Laws.{exceeds_limits, IsRequest, IsTooLarge, IsMisplaced, ParsedIsRequest, ParsedIsSyntax, ParsedIsLimit}
use Rattle.ifdb_parse.specs.rules.Requests.{whole}
use Rattle.ifdb_parse.proofs.ParsedSteps.{said, parsed_fault, parsed_request, parsed_left}
use Rattle.ifdb_parse.proofs.rules.Line.{whole_ok, whole_complete, whole_err, whole_at_fault}
use Rattle.ifdb_parse.proofs.written.Statements.{line_tallies}
use Rattle.ifdb_parse.proofs.written.Tokens.{lexed_small, all_fit_unless_lone}
use Rattle.ifdb_parse.proofs.written.Limits.{exceeds_same, kept}

-- ---- faults of the two grammars

begins_bounded : (u : Lexemes) → Begins (line written) u → Begins (line bounded) u
begins_bounded u b = record { tail = b.tail; value = bounded_request b.value; spelled = written_is_bounded (u ++ b.tail) b.value b.spelled }

begins_written : (u : Lexemes) → Begins (line bounded) u → Begins (line written) u
begins_written u b =
    let w = bounded_is_written (u ++ b.tail) b.value b.spelled in
    record { tail = b.tail; value = w.0; spelled = w.1 }

fault_written : (s : Lexemes) (left : ℕ) → IsFault (line bounded) s left → IsFault (line written) s left
fault_written s left f = record {
  used = f.used;
  rest = f.rest;
  parts = f.parts;
  counts = f.counts;
  begins = begins_written f.used f.begins;
  ends = λ t x e b. f.ends t x e (begins_bounded (f.used ++ t ∷ []) b);
  refused = λ r h. f.refused (bounded_request r) (written_is_bounded s r h);
}

fault_bounded : (s : Lexemes) (left : ℕ) → IsFault (line written) s left → IsFault (line bounded) s left
fault_bounded s left f = record {
  used = f.used;
  rest = f.rest;
  parts = f.parts;
  counts = f.counts;
  begins = begins_bounded f.used f.begins;
  ends = λ t x e b. f.ends t x e (begins_written (f.used ++ t ∷ []) b);
  refused = λ r h. let w = bounded_is_written s r h in f.refused w.0 w.1;
}

-- ---- limits

not_not : (a b : Bool) → a ≡ not b → not a ≡ b
not_not a true h = rw h refl
not_not a false h = rw h refl

-- the limits of the tree as it is written are what the parser tests
limits_are : (l : List ℕ) (tokens : List Token) → lexed l ≡ Ok tokens → (r : Request) → line written (lexemes_of (without_return l) tokens) r → exceeds_tree (lexemes_of (without_return l) tokens) (bounded_request r) ≡ exceeds_limits r
limits_are l tokens e r h =
    let s = lexemes_of (without_return l) tokens in
    let tally = (line_tallies true).tells s r before.Other h tt in
    let lone : not (numbers_fit r) ≡ has_lone before.Other s =
    not_not (numbers_fit r) (has_lone before.Other s) (sym tally.0 ∙ all_fit_unless_lone before.Other s (lexed_small l tokens e)) in
    rw (exceeds_same r, lone) refl

kept_within : (r : Request) → exceeds_limits r ≡ false → bounded_request r ≡ r
kept_within r h =
    let parts = or_parts (not (numbers_fit r)) (exceeds_request r) h in
    kept r (fits (numbers_fit r) parts.0) parts.1
  where
    fits : (b : Bool) → not b ≡ false → b ≡ true
    fits true h = refl
    fits false h = absurd cc

-- ---- requests

read_tree : (l : List ℕ) (tokens : List Token) (w : Request) → lexed l ≡ Ok tokens → line written (said l tokens) w → parsed l ≡ (if exceeds_limits w then Err fault.Limit else Ok (bounded_request w))
read_tree l tokens w e h =
    parsed_request l tokens (bounded_request w) e (whole_complete (said l tokens) (bounded_request w) (written_is_bounded (said l tokens) w h))
    ∙ ap (λ z. if z then Err fault.Limit else Ok (bounded_request w)) (limits_are l tokens e w h)

read_fault : (l : List ℕ) (tokens : List Token) (left : ℕ) → lexed l ≡ Ok tokens → IsFault (line written) (said l tokens) left → parsed l ≡ Err (fault.Syntax (place (without_return l) tokens left))
read_fault l tokens left e f = parsed_left l tokens left e (whole_at_fault (said l tokens) left (fault_bounded (said l tokens) left f))

cases : (l : List ℕ) (P : Type 0) → ((tokens : List Token) (w : Request) → lexed l ≡ Ok tokens → line written (said l tokens) w → P) → ((tokens : List Token) (left : ℕ) → lexed l ≡ Ok tokens → IsFault (line written) (said l tokens) left → P) → ((f : LexFault) → lexed l ≡ Err f → P) → P
cases l P tree misplaced other = go (lexed l) refl
  where
    tokens_case : (tokens : List Token) → lexed l ≡ Ok tokens → (o : Result Request ℕ) → whole (said l tokens) ≡ o → P
    tokens_case tokens e (Ok r) is = let w = bounded_is_written (said l tokens) r (whole_ok (said l tokens) r is) in tree tokens w.0 e w.1
    tokens_case tokens e (Err left) is = misplaced tokens left e (fault_written (said l tokens) left (whole_err (said l tokens) left is))

    go : (x : Result (List Token) LexFault) → lexed l ≡ x → P
    go (Ok tokens) e = tokens_case tokens e (whole (said l tokens)) refl
    go (Err f) e = other f e

request_to : (l : List ℕ) (r : Request) → parsed l ≡ Ok r → IsRequest l r
request_to l r h = cases l (IsRequest l r) tree misplaced other
  where
    decide : (tokens : List Token) (w : Request) → lexed l ≡ Ok tokens → line written (said l tokens) w → (b : Bool) → exceeds_limits w ≡ b → (if b then Err fault.Limit else Ok (bounded_request w)) ≡ Ok r → IsRequest l r
    decide tokens w e k true is x = absurd cc
    decide tokens w e k false is x =
        let bound : bounded_request w ≡ r = cc in
        let same : w ≡ r = sym (kept_within w is) ∙ bound in
        record { tokens = tokens; read = e; spelled = subst (λ (z : Request). line written (said l tokens) z) same k; within = ap exceeds_limits (sym same) ∙ is }

    tree : (tokens : List Token) (w : Request) → lexed l ≡ Ok tokens → line written (said l tokens) w → IsRequest l r
    tree tokens w e k = decide tokens w e k (exceeds_limits w) refl (sym (read_tree l tokens w e k) ∙ h)

    misplaced : (tokens : List Token) (left : ℕ) → lexed l ≡ Ok tokens → IsFault (line written) (said l tokens) left → IsRequest l r
    misplaced tokens left e f = let x : Err (fault.Syntax (place (without_return l) tokens left)) ≡ Ok r = sym (read_fault l tokens left e f) ∙ h in absurd cc

    other : (f : LexFault) → lexed l ≡ Err f → IsRequest l r
    other (lex.At at) e = let x : Err (fault.Syntax at) ≡ Ok r = sym (parsed_fault l (lex.At at) e) ∙ h in absurd cc
    other lex.Limit e = let x : Err fault.Limit ≡ Ok r = sym (parsed_fault l lex.Limit e) ∙ h in absurd cc
    other lex.OutOfMemory e = let x : Err fault.OutOfMemory ≡ Ok r = sym (parsed_fault l lex.OutOfMemory e) ∙ h in absurd cc

request_back : (l : List ℕ) (r : Request) → IsRequest l r → parsed l ≡ Ok r
request_back l r h = read_tree l h.tokens r h.read h.spelled ∙ rw h.within (ap Ok (kept_within r h.within))

pub parsed_is_request : ParsedIsRequest
parsed_is_request l r = (request_to l r, request_back l r)

-- ---- places

syntax_to : (l : List ℕ) (at : ℕ) → parsed l ≡ Err (fault.Syntax at) → (lexed l ≡ Err (lex.At at)) ⊎ IsMisplaced l at
syntax_to l at h = cases l _ tree misplaced other
  where
    decide : (w : Request) (b : Bool) → (if b then Err fault.Limit else Ok (bounded_request w)) ≡ Err (fault.Syntax at) → (lexed l ≡ Err (lex.At at)) ⊎ IsMisplaced l at
    decide w true x = absurd cc
    decide w false x = absurd cc

    tree : (tokens : List Token) (w : Request) → lexed l ≡ Ok tokens → line written (said l tokens) w → (lexed l ≡ Err (lex.At at)) ⊎ IsMisplaced l at
    tree tokens w e k = decide w (exceeds_limits w) (sym (read_tree l tokens w e k) ∙ h)

    misplaced : (tokens : List Token) (left : ℕ) → lexed l ≡ Ok tokens → IsFault (line written) (said l tokens) left → (lexed l ≡ Err (lex.At at)) ⊎ IsMisplaced l at
    misplaced tokens left e f =
        let x : Err (fault.Syntax (place (without_return l) tokens left)) ≡ Err (fault.Syntax at) = sym (read_fault l tokens left e f) ∙ h in
        inr (record { tokens = tokens; read = e; left = left; misplaced = f; place = cc })

    other : (f : LexFault) → lexed l ≡ Err f → (lexed l ≡ Err (lex.At at)) ⊎ IsMisplaced l at
    other (lex.At n) e =
        let x : Err (fault.Syntax n) ≡ Err (fault.Syntax at) = sym (parsed_fault l (lex.At n) e) ∙ h in
        let same : n ≡ at = cc in
        inl (e ∙ ap (λ z. Err (lex.At z)) same)
    other lex.Limit e = let x : Err fault.Limit ≡ Err (fault.Syntax at) = sym (parsed_fault l lex.Limit e) ∙ h in absurd cc
    other lex.OutOfMemory e = let x : Err fault.OutOfMemory ≡ Err (fault.Syntax at) = sym (parsed_fault l lex.OutOfMemory e) ∙ h in absurd cc

syntax_back : (l : List ℕ) (at : ℕ) → ((lexed l ≡ Err (lex.At at)) ⊎ IsMisplaced l at) → parsed l ≡ Err (fault.Syntax at)
syntax_back l at (inl e) = parsed_fault l (lex.At at) e
syntax_back l at (inr m) = read_fault l m.tokens m.left m.read m.misplaced ∙ ap (λ z. Err (fault.Syntax z)) m.place

pub parsed_is_syntax : ParsedIsSyntax
parsed_is_syntax l at = (syntax_to l at, syntax_back l at)

-- ---- limits

limit_to : (l : List ℕ) → parsed l ≡ Err fault.Limit → (lexed l ≡ Err lex.Limit) ⊎ IsTooLarge l
limit_to l h = cases l _ tree misplaced other
  where
    decide : (tokens : List Token) (w : Request) → lexed l ≡ Ok tokens → line written (said l tokens) w → (b : Bool) → exceeds_limits w ≡ b → (if b then Err fault.Limit else Ok (bounded_request w)) ≡ Err fault.Limit → (lexed l ≡ Err lex.Limit) ⊎ IsTooLarge l
    decide tokens w e k true is x = inr (record { tokens = tokens; read = e; request = w; spelled = k; beyond = is })
    decide tokens w e k false is x = absurd cc

    tree : (tokens : List Token) (w : Request) → lexed l ≡ Ok tokens → line written (said l tokens) w → (lexed l ≡ Err lex.Limit) ⊎ IsTooLarge l
    tree tokens w e k = decide tokens w e k (exceeds_limits w) refl (sym (read_tree l tokens w e k) ∙ h)

    misplaced : (tokens : List Token) (left : ℕ) → lexed l ≡ Ok tokens → IsFault (line written) (said l tokens) left → (lexed l ≡ Err lex.Limit) ⊎ IsTooLarge l
    misplaced tokens left e f = let x : Err (fault.Syntax (place (without_return l) tokens left)) ≡ Err fault.Limit = sym (read_fault l tokens left e f) ∙ h in absurd cc

    other : (f : LexFault) → lexed l ≡ Err f → (lexed l ≡ Err lex.Limit) ⊎ IsTooLarge l
    other (lex.At n) e = let x : Err (fault.Syntax n) ≡ Err fault.Limit = sym (parsed_fault l (lex.At n) e) ∙ h in absurd cc
    other lex.Limit e = inl e
    other lex.OutOfMemory e = let x : Err fault.OutOfMemory ≡ Err fault.Limit = sym (parsed_fault l lex.OutOfMemory e) ∙ h in absurd cc

limit_back : (l : List ℕ) → ((lexed l ≡ Err lex.Limit) ⊎ IsTooLarge l) → parsed l ≡ Err fault.Limit
limit_back l (inl e) = parsed_fault l lex.Limit e
limit_back l (inr m) = read_tree l m.tokens m.request m.read m.spelled ∙ rw m.beyond refl

pub parsed_is_limit : ParsedIsLimit
parsed_is_limit l = (limit_to l, limit_back l)
