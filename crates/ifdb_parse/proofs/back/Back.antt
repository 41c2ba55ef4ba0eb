-- The canonical text of a request that a line spells is a line that spells it.
use Rattle.std.proofs.Common.{◌≡◌, ℕ, zero, suc, ◌≤◌, Bool, true, false, ◌||◌, nat_lt, if◌then◌else◌, take, List, [], ◌∷◌, length, count_by, Ok, refl, sym, ap, subst, ◌∙◌, arith}
use Rattle.std.specs.Prelude.{nat_le}
use Rattle.std.specs.List.{list_any, list_all}
use Rattle.std.specs.Str.{IsUtf8, is_utf8}
use Rattle.std.specs.Str.Lossy.{valid_len_up_to, utf8_valid_len}
use Rattle.std.proofs.lemmas.List.{take_all}
use Rattle.std.proofs.lemmas.Bool.Decides.{nat_tests}
use Rattle.std.proofs.lemmas.Str.{utf8_valid_len-IsUtf8, IsUtf8-nil, IsUtf8-from_is_utf8}
use Rattle.ifdb_lex.specs.declared.token.Token.{Token}
use Rattle.ifdb_lex.specs.Line.{without_return, tokens_of}
use Rattle.ifdb_lex.specs.Limits.{is_long_name, is_large_number, nests_deep, is_not}
use Rattle.ifdb_lex.specs.Lex.{lexed}
use Rattle.ifdb_lex.proofs.LineLaws.{tokens_laid_out}
use Rattle.ifdb_lex.proofs.LexLaws.{lexed_tokens}
use Rattle.ifdb_syntax.specs.declared.select.Select.{Select}
use Rattle.ifdb_syntax.specs.declared.select.Item.{Item}
use Rattle.ifdb_syntax.specs.declared.select.Item.TheVariants as i
use Rattle.ifdb_syntax.specs.declared.request.Request.{Request}
use Rattle.ifdb_syntax.specs.declared.request.Request.TheVariants as q
use Rattle.ifdb_syntax.specs.declared.request.Assignment.{Assignment}
use Rattle.ifdb_syntax.specs.Words.{Lexemes}
use Rattle.ifdb_syntax.specs.Reading.{operators, bounded}
use Rattle.ifdb_syntax.specs.Requests.{line as line_rule}
use Rattle.ifdb_syntax.specs.Within.{item_short, assignment_short, request_fits, request_short}
use Rattle.ifdb_syntax.specs.canonical.Requests.{request_tokens}
use Rattle.ifdb_syntax.specs.canonical.Text.{spaced, canonical_text}
use Rattle.ifdb_syntax.proofs.RequestLine.{line_in}
use Rattle.ifdb_syntax.proofs.BoundedLine.{written_is_bounded, bounded_is_written}
use Rattle.ifdb_syntax.proofs.LineShape.{line_shape}
use Rattle.ifdb_syntax.proofs.Within.{within_is_kept, bounded_fits}
use Rattle.ifdb_parse.specs.declared.limits.Before.TheVariants as before
use Rattle.ifdb_parse.specs.Lexemes.{lexemes_of}
use Rattle.ifdb_parse.specs.TreeLimits.{has_lone, exceeds_list, exceeds_len, exceeds_item, exceeds_select, exceeds_assignment, exceeds_request, exceeds_tree}
use Rattle.ifdb_parse.specs.Back.{IsSpelled}
use Rattle.ifdb_parse.proofs.Readable.{judged_ok, neither, tokens_readable}
use Rattle.ifdb_parse.proofs.back.Lighter.{AllSound, Shallow, nots}
use Rattle.ifdb_parse.proofs.back.Requests.{line_ends}
use Rattle.ifdb_parse.proofs.back.Reads.{reads_spaced, lexemes_read}
use Rattle.ifdb_parse.proofs.back.Texts.{spaced_utf8, spaced_whole}
use Rattle.ifdb_parse.proofs.back.Limits.{passes_none, AllReadable, all_sound, shallow_from, nots_from}

-- ---- expressions within the limit

short_of : (n : ℕ) → nat_lt 64 n ≡ false → nat_le n 64 ≡ true
short_of n h = grind (arith, nat_tests)

item_within : (x : Item) → exceeds_item x ≡ false → item_short x ≡ true
item_within (i.Expr x name) h = short_of (operators x) h
item_within i.All h = refl
item_within (i.LabelOf source name) h = refl
item_within (i.CountAll name) h = refl
item_within (i.Sum column name) h = refl
item_within (i.Min column name) h = refl
item_within (i.Max column name) h = refl

items_within : (xs : List Item) → list_any exceeds_item xs ≡ false → list_all item_short xs ≡ true
items_within [] h = refl
items_within (x ∷ xs) h = let ab = neither (exceeds_item x) (list_any exceeds_item xs) h in rw (item_within x ab.0) (items_within xs ab.1)

assignments_within : (xs : List Assignment) → list_any exceeds_assignment xs ≡ false → list_all assignment_short xs ≡ true
assignments_within [] h = refl
assignments_within (x ∷ xs) h = let ab = neither (exceeds_assignment x) (list_any exceeds_assignment xs) h in
    rw (short_of (operators x.expr) ab.0) (assignments_within xs ab.1)

select_within : (s : Select) → exceeds_select s ≡ false → list_all item_short s.items ≡ true
select_within s h = items_within s.items (neither (exceeds_list s.items || exceeds_len 4 s.sources || exceeds_list s.group || exceeds_list s.order)
    (list_any exceeds_item s.items) h).1

request_within : (r : Request) → exceeds_request r ≡ false → request_short r ≡ true
request_within (q.CreateView name select tags) h = select_within select (neither (exceeds_select select) (exceeds_list tags) h).0
request_within (q.Select select) h = select_within select h
request_within (q.Update table assignments cond tags) h =
    assignments_within assignments (neither (exceeds_list assignments || exceeds_list tags) (list_any exceeds_assignment assignments) h).1
request_within (q.Insert table columns rows tags) h = refl
request_within (q.Delete table cond) h = refl
request_within (q.Hello name key) h = refl
request_within (q.CreatePrincipal name key clearance) h = refl
request_within (q.CreateTag name compound parents) h = refl
request_within (q.CreateTable name columns key foreign) h = refl
request_within (q.Grant tag to) h = refl
request_within (q.Revoke tag from) h = refl
request_within (q.SetLabel tags) h = refl
request_within q.ShowLabel h = refl
request_within q.Begin h = refl
request_within q.Commit h = refl
request_within q.Rollback h = refl
request_within q.Bye h = refl

-- ---- the canonical lexemes spell the request

-- each tree of a bounded reader, within the limit, is spelled by its canonical lexemes
spelled_back : (u : Lexemes) (r : Request) → line_rule bounded u r → request_short r ≡ true → line_rule bounded (request_tokens r) r
spelled_back u r h short =
    let w = bounded_is_written u r h in
    let fits : request_fits r ≡ true = subst (λ (z : Request). request_fits z ≡ true) w.2 (bounded_fits w.0) in
    let kept = within_is_kept r fits short in
    subst (λ (z : Request). line_rule bounded (request_tokens r) z) kept (written_is_bounded (request_tokens r) r (line_in r (line_shape bounded u r h)))

-- ---- what is known of a line without a fault

record Faultless (u : Lexemes) : Type 0 where
  sound : AllSound u
  low : Shallow 0 u
  few : nots u ≤ 64

up_to_le : (line : List ℕ) (n : ℕ) → valid_len_up_to line n ≤ n
up_to_le line zero = omega arith
up_to_le line (suc n) = by_test (is_utf8 (take (suc n) line)) (up_to_le line n)
  where
    by_test : (test : Bool) → valid_len_up_to line n ≤ n → (if test then suc n else valid_len_up_to line n) ≤ suc n
    by_test true le = omega arith
    by_test false le = omega arith

up_to_all : (line : List ℕ) (n : ℕ) → n ≡ length line → n ≤ valid_len_up_to line n → IsUtf8 line
up_to_all [] zero is le = IsUtf8-nil
up_to_all (b ∷ line) zero is le = absurd (omega arith)
up_to_all line (suc n) is le = by_test (is_utf8 (take (suc n) line)) refl le
  where
    by_test : (test : Bool) → is_utf8 (take (suc n) line) ≡ test → suc n ≤ (if test then suc n else valid_len_up_to line n) → IsUtf8 line
    by_test true valid le = IsUtf8-from_is_utf8 line (ap is_utf8 (sym (take_all (suc n) line (omega arith))) ∙ valid)
    by_test false valid le = let less = up_to_le line n in absurd (omega arith)

valid_line : (line : List ℕ) → nat_lt (utf8_valid_len line) (length line) ≡ false → IsUtf8 line
unfolding utf8_valid_len
valid_line line h = up_to_all line (length line) refl (not_less (valid_len_up_to line (length line)) (length line) h)
  where
    not_less : (n m : ℕ) → nat_lt n m ≡ false → m ≤ n
    not_less n m h = grind (arith, nat_tests)

faultless : (line : List ℕ) (tokens : List Token) → lexed line ≡ Ok tokens → Faultless (lexemes_of (without_return line) tokens)
faultless line tokens e =
    let text = without_return line in
    let j = judged_ok text (tokens_of text) tokens e in
    let valid = valid_line text j.valid in
    let laid = tokens_laid_out text tokens j.read in
    let a = list_any is_long_name tokens in
    let b = list_any is_large_number tokens in
    let c = nests_deep 0 tokens in
    let d = nat_lt 64 (count_by (is_not text) tokens) in
    let abcd = neither (a || b || c) d j.within in
    let abc = neither (a || b) c abcd.0 in
    let ab = neither a b abc.0 in
    let all : AllReadable text tokens = record { readable = tokens_readable line tokens e laid; small = ab.1 } in
    record {
      sound = all_sound text tokens valid all;
      low = shallow_from text tokens 0 valid all abc.1;
      few = at_most (count_by (is_not text) tokens) (nots (lexemes_of text tokens)) abcd.1 (nots_from text tokens valid all);
    }
  where
    at_most : (n m : ℕ) → nat_lt 64 n ≡ false → m ≤ n → m ≤ 64
    at_most n m h le = grind (arith, nat_tests)

-- ---- the way back

-- the canonical lexemes of what a line spells are sound
pub tokens_sound : (line : List ℕ) (r : Request) → IsSpelled line r → AllSound (request_tokens r)
tokens_sound line r h =
    let u = lexemes_of (without_return line) h.tokens in
    let limits = neither (has_lone before.Other u) (exceeds_request r) h.within in
    (line_ends u r h.spelled (request_within r limits.1)).sound (faultless line h.tokens h.read).sound

-- sound lexemes within the limits that count them are read back from their text
pub read_back : (s : Lexemes) → AllSound s → Shallow 0 s → nots s ≤ 64 →
    (tokens : List Token) × (lexed (spaced s) ≡ Ok tokens) × (lexemes_of (without_return (spaced s)) tokens ≡ s)
read_back s sound low few =
    let text = spaced s in
    let r = reads_spaced s sound in
    let whole = spaced_whole s sound in
    let valid : length text ≤ utf8_valid_len text = (let e = utf8_valid_len-IsUtf8 text (spaced_utf8 s sound) in omega arith) in
    let lex = lexed_tokens text text r.tokens (sym whole) r.read valid (passes_none text r.tokens s r.stand sound low few) in
    (r.tokens, lex, ap (λ (z : List ℕ). lexemes_of z r.tokens) whole ∙ lexemes_read text r.tokens s r.stand)

pub reads_back : (line : List ℕ) (r : Request) → IsSpelled line r → IsSpelled (canonical_text r) r
unfolding canonical_text
reads_back line r h =
    let u = lexemes_of (without_return line) h.tokens in
    let f = faultless line h.tokens h.read in
    let limits = neither (has_lone before.Other u) (exceeds_request r) h.within in
    let short = request_within r limits.1 in
    let l = line_ends u r h.spelled short in
    let s = request_tokens r in
    let back = read_back s (l.sound f.sound) (l.shallow 0 0 (omega arith) (omega arith) f.low) (omega (arith, l.fewer, f.few)) in
    let spelled = spelled_back u r h.spelled short in
    let lone : has_lone before.Other s ≡ false = l.lone limits.0 in
    let within : exceeds_tree s r ≡ false = rw (lone, limits.1) refl in
    record {
      tokens = back.0;
      read = back.1;
      spelled = subst (λ (z : Lexemes). line_rule bounded z r) (sym back.2) spelled;
      within = subst (λ (z : Lexemes). exceeds_tree z r ≡ false) (sym back.2) within;
    }
