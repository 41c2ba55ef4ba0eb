-- A SELECT that was read is over four sources at most.
use Rattle.std.proofs.Common.{◌≡◌, ℕ, Bool, true, false, List, length, refl, sym, ap, ◌∙◌, arith, cond}
use Rattle.std.specs.Prelude.{Result, Ok, Err, nat_le}
use Rattle.std.proofs.lemmas.Bool.Decides.{nat_tests}
use Rattle.ifdb_lex.specs.declared.token.Token.{Token}
use Rattle.ifdb_lex.specs.declared.fault.LexFault.{LexFault}
use Rattle.ifdb_lex.specs.Line.{without_return}
use Rattle.ifdb_lex.specs.Lex.{lexed}
use Rattle.ifdb_syntax.specs.Words.{Lexemes}
use Rattle.ifdb_syntax.specs.declared.select.Select.{Select}
use Rattle.ifdb_syntax.specs.declared.request.Request.{Request}
use Rattle.ifdb_syntax.specs.declared.request.Request.TheVariants as q
use Rattle.ifdb_parse.specs.declared.fault.ParseFault.{ParseFault}
use Rattle.ifdb_parse.specs.declared.fault.ParseFault.TheVariants as fault
use Rattle.ifdb_parse.specs.Lexemes.{lexemes_of}
use Rattle.ifdb_parse.specs.TreeLimits.{exceeds_tree, exceeds_request, exceeds_select}
use Rattle.ifdb_parse.specs.Parsed.{parsed, parsed_lexed, limited, judged}
use Rattle.ifdb_parse.specs.rules.Requests.{whole}
use Rattle.ifdb_snapshot.specs.Narrow.{is_narrow}
use Rattle.ifdb_db.specs.Reading.{read_line, request_or_fault}

-- ---- what is read

abbrev AllNarrow : Result Request ParseFault → Type 0
AllNarrow o = (r : Request) → o ≡ Ok r → is_narrow r ≡ true

within_select : (s : Select) → exceeds_select s ≡ false → nat_le (length s.sources) 4 ≡ true
within_select s h = grind (arith, nat_tests)

within : (r : Request) → exceeds_request r ≡ false → is_narrow r ≡ true
within (q.Select s) h = within_select s h
within (q.CreateView name s tags) h = within_select s (grind (arith, nat_tests))
within (q.Hello name key) h = refl
within (q.CreatePrincipal name key clearance) h = refl
within (q.CreateTag name compound parents) h = refl
within (q.CreateTable name columns key foreign) h = refl
within (q.Grant tag to) h = refl
within (q.Revoke tag from) h = refl
within (q.SetLabel tags) h = refl
within q.ShowLabel h = refl
within q.Begin h = refl
within q.Commit h = refl
within q.Rollback h = refl
within q.Bye h = refl
within (q.Insert table columns rows tags) h = refl
within (q.Update table assignments cond tags) h = refl
within (q.Delete table cond) h = refl

limited_narrow : (s : Lexemes) (x : Request) → AllNarrow (limited s x)
limited_narrow s x r e = by (exceeds_tree s x) refl e where
  by : (b : Bool) → exceeds_tree s x ≡ b → cond b (Err fault.Limit) (Ok x) ≡ Ok r → is_narrow r ≡ true
  by true h k = cc
  by false h k =
      let same : x ≡ r = cc in
      ap is_narrow (sym same) ∙ within x (grind (arith, nat_tests))

judged_narrow : (line : List ℕ) (tokens : List Token) (s : Lexemes) (o : Result Request ℕ) → AllNarrow (judged line tokens s o)
judged_narrow line tokens s (Ok x) = limited_narrow s x
judged_narrow line tokens s (Err left) = λ r e. cc

lexed_narrow : (line : List ℕ) (o : Result (List Token) LexFault) → AllNarrow (parsed_lexed line o)
lexed_narrow line (Ok tokens) = judged_narrow line tokens (lexemes_of line tokens) (whole (lexemes_of line tokens))
lexed_narrow line (Err f) = λ r e. cc

parsed_narrow : (line : List ℕ) → AllNarrow (parsed line)
unfolding parsed
parsed_narrow line = lexed_narrow (without_return line) (lexed line)

named_narrow : (o : Result Request ParseFault) (r : Request) → AllNarrow o → request_or_fault o ≡ Ok r → is_narrow r ≡ true
named_narrow (Ok x) r h e = let same : x ≡ r = cc in ap is_narrow (sym same) ∙ h x refl
named_narrow (Err f) r h e = cc

pub read_narrow : (line : List ℕ) (r : Request) → read_line line ≡ Ok r → is_narrow r ≡ true
read_narrow line r e = named_narrow (parsed line) r (parsed_narrow line) e
