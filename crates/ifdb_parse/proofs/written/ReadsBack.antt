-- The canonical text of a request that was read is read as it.
use Rattle.std.proofs.Common.{◌≡◌, ℕ, ◌≤◌, Bool, true, false, List, Result, Ok, Err, refl, sym, ap, subst, ◌∙◌}
use Rattle.std.specs.Prelude.{if◌then◌else◌}
use Rattle.ifdb_lex.specs.declared.token.Token.{Token}
use Rattle.ifdb_lex.specs.declared.fault.LexFault.{LexFault}
use Rattle.ifdb_lex.specs.declared.fault.LexFault.TheVariants as lex
use Rattle.ifdb_lex.specs.Line.{without_return}
use Rattle.ifdb_lex.specs.Lex.{lexed}
use Rattle.ifdb_syntax.specs.declared.request.Request.{Request}
use Rattle.ifdb_syntax.specs.Words.{Lexemes}
use Rattle.ifdb_syntax.specs.Reading.{bounded}
use Rattle.ifdb_syntax.specs.Requests.{line as line_rule}
use Rattle.ifdb_syntax.specs.Shapes.{request_shape}
use Rattle.ifdb_syntax.specs.Bounded.{bounded_request}
use Rattle.ifdb_syntax.specs.canonical.Requests.{request_tokens}
use Rattle.ifdb_syntax.specs.canonical.Text.{spaced, canonical_text}
use Rattle.ifdb_syntax.proofs.RequestLine.{line_in}
use Rattle.ifdb_syntax.proofs.BoundedLine.{written_is_bounded}
use Rattle.ifdb_parse.specs.declared.fault.ParseFault.TheVariants as fault
use Rattle.ifdb_parse.specs.Lexemes.{lexemes_of}
use Rattle.ifdb_parse.specs.TreeLimits.{exceeds_tree}
use Rattle.ifdb_parse.specs.Parsed.{parsed}
use Rattle.ifdb_parse.specs.Back.{IsSpelled}
use Rattle.ifdb_parse.specs.Laws.{ParsedReadsBack}
use Rattle.ifdb_parse.specs.rules.Requests.{whole}
use Rattle.ifdb_parse.proofs.ParsedSteps.{said, parsed_fault, parsed_request, parsed_left}
use Rattle.ifdb_parse.proofs.rules.Line.{whole_ok, whole_complete, one_request}
use Rattle.ifdb_parse.proofs.back.Back.{reads_back, read_back, tokens_sound}
use Rattle.ifdb_parse.proofs.back.Lighter.{AllSound, Shallow, nots}

spelled_of : (l : List ℕ) (r : Request) → parsed l ≡ Ok r → IsSpelled l r
spelled_of l r h = go (lexed l) refl
  where
    limits_case : (tokens : List Token) → lexed l ≡ Ok tokens → (x : Request) → whole (said l tokens) ≡ Ok x → (test : Bool) → exceeds_tree (said l tokens) x ≡ test → (if test then Err fault.Limit else Ok x) ≡ Ok r → IsSpelled l r
    limits_case tokens e x is true test k = absurd cc
    limits_case tokens e x is false test k =
        let same : x ≡ r = cc in
        record {
          tokens = tokens;
          read = e;
          spelled = whole_ok (said l tokens) r (is ∙ ap Ok same);
          within = ap (exceeds_tree (said l tokens)) (sym same) ∙ test;
        }

    tokens_case : (tokens : List Token) → lexed l ≡ Ok tokens → (o : Result Request ℕ) → whole (said l tokens) ≡ o → IsSpelled l r
    tokens_case tokens e (Ok x) is = limits_case tokens e x is (exceeds_tree (said l tokens) x) refl (sym (parsed_request l tokens x e is) ∙ h)
    tokens_case tokens e (Err left) is = let k = sym (parsed_left l tokens left e is) ∙ h in absurd cc

    go : (x : Result (List Token) LexFault) → lexed l ≡ x → IsSpelled l r
    go (Ok tokens) e = tokens_case tokens e (whole (said l tokens)) refl
    go (Err f) e = let k = sym (parsed_fault l f e) ∙ h in absurd cc

parsed_of : (l : List ℕ) (r : Request) → IsSpelled l r → parsed l ≡ Ok r
parsed_of l r s =
    parsed_request l s.tokens r s.read (whole_complete (said l s.tokens) r s.spelled)
    ∙ ap (λ test. if test then Err fault.Limit else Ok r) s.within

-- the canonical lexemes of what a line is read as are sound
pub read_sound : (l : List ℕ) (r : Request) → parsed l ≡ Ok r → AllSound (request_tokens r)
read_sound l r h = tokens_sound l r (spelled_of l r h)

-- the canonical text of a tree whose lexemes are sound is read as that tree, if as any
pub read_as : (r : Request) → request_shape r ≡ true → AllSound (request_tokens r) → Shallow 0 (request_tokens r) → nots (request_tokens r) ≤ 64
    → (q : Request) → parsed (canonical_text r) ≡ Ok q → q ≡ bounded_request r
unfolding canonical_text
read_as r shape sound low few q h =
    let s = request_tokens r in
    let back = read_back s sound low few in
    let k = spelled_of (spaced s) q h in
    let read = k.read in
    let read_too = back.1 in
    let same : k.tokens ≡ back.0 = cc in
    let says = ap (lexemes_of (without_return (spaced s))) same ∙ back.2 in
    one_request s q (bounded_request r) (subst (λ (z : Lexemes). line_rule bounded z q) says k.spelled) (written_is_bounded s r (line_in r shape))

pub parsed_reads_back : ParsedReadsBack
parsed_reads_back l r h = parsed_of (canonical_text r) r (reads_back l r (spelled_of l r h))
