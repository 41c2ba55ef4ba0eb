-- A line that is read as HELLO begins with an H, in either case, behind spaces and tabs.
use Rattle.std.proofs.Common.{◌≡◌, ℕ, ◌+◌, ◌-◌, ◌≤◌, Bool, true, false, true≢false, List, [], ◌∷◌, ◌++◌, length, take, drop, Option, Some, None, Result, Ok, Err, refl, sym, ap, ◌∙◌, inl, inr, arith}
use Rattle.std.specs.Prelude.{◌==◌, ◌||◌, ◌⊎◌, nat_lt, slice_index, slice_range, if◌then◌else◌, codes}
use Rattle.std.specs.Char.{to_ascii_lowercase}
use Rattle.std.specs.List.{list_all}
use Rattle.std.specs.Str.{str_eq_ignore_ascii_case}
use Rattle.std.specs.Str.Lossy.{utf8_valid_len}
use Rattle.std.proofs.lemmas.Bool.{and_parts, eqb-true}
use Rattle.std.proofs.lemmas.List.{take-append-drop}
use Rattle.std.proofs.lemmas.List.Folds.{drop_split}
use Rattle.ifdb_lex.specs.declared.token.Token.{Token}
use Rattle.ifdb_lex.specs.declared.token.TokenKind.{TokenKind}
use Rattle.ifdb_lex.specs.declared.token.TokenKind.TheVariants as kind
use Rattle.ifdb_lex.specs.declared.fault.LexFault.TheVariants.{At, Limit}
use Rattle.ifdb_lex.specs.Line.{is_blank, without_return, tokens_of, IsLaidOut}
use Rattle.ifdb_lex.specs.Limits.{exceeds}
use Rattle.ifdb_lex.specs.Lex.{judged, lexed}
use Rattle.ifdb_lex.proofs.LineLaws.{tokens_laid_out}
use Rattle.ifdb_syntax.specs.declared.lexeme.Lexeme.{Lexeme}
use Rattle.ifdb_syntax.specs.declared.lexeme.Lexeme.TheVariants as t
use Rattle.ifdb_syntax.specs.declared.request.Request.{Request}
use Rattle.ifdb_syntax.specs.declared.request.Request.TheVariants as q
use Rattle.ifdb_syntax.specs.Words.{Lexemes, BEGIN, BYE, COMMIT, HELLO, ROLLBACK}
use Rattle.ifdb_syntax.specs.Spelling.{word_text}
use Rattle.ifdb_syntax.specs.Lang.{Lang, ◌or◌, Then, nothing}
use Rattle.ifdb_syntax.specs.Reading.{Reading, written}
use Rattle.ifdb_syntax.specs.Requests.{word, hello, principal, tag, table, view, create, grant, revoke, set_label, show_label, query, insert, update, delete, request, line}
use Rattle.ifdb_syntax.proofs.Makes.{Makes, nothing_makes, next_makes, or_makes}
use Rattle.ifdb_parse.specs.declared.fault.ParseFault.{ParseFault}
use Rattle.ifdb_parse.specs.Lexemes.{reserved, reserved_words, spelled_among, word_or_name, symbol_of, lexeme_from, lexeme_of, lexemes_of}
use Rattle.ifdb_parse.specs.Parsed.{parsed}
use Rattle.ifdb_parse.proofs.written.Parsed.{parsed_is_request}
use Rattle.ifdb_parse.proofs.back.Prints.{token_is}
use Rattle.ifdb_keyed.specs.Keyed.{said_key}
use Rattle.ifdb_keyed.specs.Marks.{first_mark, is_h}

-- ---- the other requests

abbrev not_hello : Request → Bool
not_hello (q.Hello name key) = false
not_hello _ = true

-- a language of other requests
abbrev Other : Lang Request → Type 0
Other l = Makes l not_hello

next : {A : Type 0} (l : Lang A) (m : A → Lang Request) → ((a : A) → Other (m a)) → Other (λ u b. Then l m u b)
next l m h = next_makes not_hello l m h

ends : (x : Request) → not_hello x ≡ true → Other (nothing x)
ends x e = nothing_makes not_hello x e

grant_other : Other grant
grant_other = next _ _ (λ _. next _ _ (λ a. next _ _ (λ _. next _ _ (λ b. ends (q.Grant a b) refl))))

revoke_other : Other revoke
revoke_other = next _ _ (λ _. next _ _ (λ a. next _ _ (λ _. next _ _ (λ b. ends (q.Revoke a b) refl))))

set_label_other : Other set_label
set_label_other = next _ _ (λ _. next _ _ (λ _. next _ _ (λ tags. ends (q.SetLabel tags) refl)))

show_label_other : Other show_label
show_label_other = next _ _ (λ _. next _ _ (λ _. ends q.ShowLabel refl))

word_other : (k : ℕ) (x : Request) → not_hello x ≡ true → Other (word k x)
word_other k x e = next _ _ (λ _. ends x e)

principal_other : Other principal
principal_other = next _ _ (λ _. next _ _ (λ n. next _ _ (λ _. next _ _ (λ key. next _ _ (λ tags. ends (q.CreatePrincipal n key tags) refl)))))

tag_other : (compound : Bool) → Other (tag compound)
tag_other compound = next _ _ (λ _. next _ _ (λ n. next _ _ (λ parents. ends (q.CreateTag n compound parents) refl)))

table_other : Other table
table_other =
    next _ _ (λ _. next _ _ (λ n. next _ _ (λ _. next _ _ (λ first. next _ _ (λ _. next _ _ (λ columns. next _ _ (λ _. next _ _ (λ _. next _ _ (λ key. next _ _ (λ keys.
    next _ _ (λ _. ends (q.CreateTable n columns key keys) refl)))))))))))

module _ (r : Reading) where
  view_other : Other (view r)
  view_other =
      next _ _ (λ _. next _ _ (λ n. next _ _ (λ _. next _ _ (λ shown. next _ _ (λ _. next _ _ (λ _. next _ _ (λ tags. ends (q.CreateView n shown tags) refl)))))))

  create_other : Other (create r)
  create_other =
      next _ _ (λ _. or_makes not_hello _ _ (or_makes not_hello _ _ (or_makes not_hello _ _ (or_makes not_hello _ _
      principal_other (tag_other false)) (next _ _ (λ _. tag_other true))) table_other) view_other)

  query_other : Other (query r)
  query_other = next _ _ (λ s. ends (q.Select s) refl)

  insert_other : Other (insert r)
  insert_other =
      next _ _ (λ _. next _ _ (λ _. next _ _ (λ n. next _ _ (λ columns. next _ _ (λ _. next _ _ (λ rows. next _ _ (λ tags. ends (q.Insert n columns rows tags) refl)))))))

  update_other : Other (update r)
  update_other =
      next _ _ (λ _. next _ _ (λ n. next _ _ (λ _. next _ _ (λ assignments. next _ _ (λ found. next _ _ (λ tags. ends (q.Update n assignments found tags) refl))))))

  delete_other : Other (delete r)
  delete_other = next _ _ (λ _. next _ _ (λ _. next _ _ (λ n. next _ _ (λ found. ends (q.Delete n found) refl))))

-- of two languages, of which the second has no HELLO
either : (l k : Lang Request) → Other k → (u : Lexemes) (a : Request) → not_hello a ≡ false → l u a ⊎ k u a → l u a
either l k other u a e h = elim h [ inl x ↦ x | inr y ↦ absurd (true≢false (sym (other u a y) ∙ e)) ]

-- ---- a HELLO

module _ (r : Reading) where
  -- the requests up to each rule
  abbrev upto_create : Lang Request
  upto_create = hello or create r

  abbrev upto_grant : Lang Request
  upto_grant = upto_create or grant

  abbrev upto_revoke : Lang Request
  upto_revoke = upto_grant or revoke

  abbrev upto_set_label : Lang Request
  upto_set_label = upto_revoke or set_label

  abbrev upto_show_label : Lang Request
  upto_show_label = upto_set_label or show_label

  abbrev upto_begin : Lang Request
  upto_begin = upto_show_label or word BEGIN q.Begin

  abbrev upto_commit : Lang Request
  upto_commit = upto_begin or word COMMIT q.Commit

  abbrev upto_rollback : Lang Request
  upto_rollback = upto_commit or word ROLLBACK q.Rollback

  abbrev upto_bye : Lang Request
  upto_bye = upto_rollback or word BYE q.Bye

  abbrev upto_query : Lang Request
  upto_query = upto_bye or query r

  abbrev upto_insert : Lang Request
  upto_insert = upto_query or insert r

  abbrev upto_update : Lang Request
  upto_update = upto_insert or update r

  hello_alone : (u : Lexemes) (a : Request) → not_hello a ≡ false → request r u a → hello u a
  hello_alone u a e h =
      either hello (create r) (create_other r) u a e
      (either upto_create grant grant_other u a e
      (either upto_grant revoke revoke_other u a e
      (either upto_revoke set_label set_label_other u a e
      (either upto_set_label show_label show_label_other u a e
      (either upto_show_label (word BEGIN q.Begin) (word_other BEGIN q.Begin refl) u a e
      (either upto_begin (word COMMIT q.Commit) (word_other COMMIT q.Commit refl) u a e
      (either upto_commit (word ROLLBACK q.Rollback) (word_other ROLLBACK q.Rollback refl) u a e
      (either upto_rollback (word BYE q.Bye) (word_other BYE q.Bye refl) u a e
      (either upto_bye (query r) (query_other r) u a e
      (either upto_query (insert r) (insert_other r) u a e
      (either upto_insert (update r) (update_other r) u a e
      (either upto_update (delete r) (delete_other r) u a e h))))))))))))

-- these lexemes begin with the word
abbrev Begins : Lexemes → Type 0
Begins u = (more : Lexemes) × (u ≡ t.Hello ∷ more)

hello_begins : (u : Lexemes) (a : Request) → hello u a → Begins u
hello_begins u a h = (h.back, h.parts ∙ ap (λ (f : Lexemes). f ++ h.back) (token_is t.Hello HELLO h.front h.value refl refl h.first))

line_begins : (r : Reading) (u : Lexemes) (a : Request) → not_hello a ≡ false → line r u a → Begins u
line_begins r u a e h =
    let same : a ≡ h.value = elim h.second [ inl y ↦ y.second.1 | inr y ↦ y.1 ] in
    let first = hello_begins h.front h.value (hello_alone r h.front h.value (ap not_hello (sym same) ∙ e) h.first) in
    (first.0 ++ h.back, h.parts ∙ ap (λ (s : Lexemes). s ++ h.back) first.1)

-- ---- its token

spelled_by : (text : List ℕ) (x w : Lexeme) (o : Option Lexeme) (test : Bool) → str_eq_ignore_ascii_case text (word_text x) ≡ test
    → (o ≡ Some w → str_eq_ignore_ascii_case text (word_text w) ≡ true) → (if test then Some x else o) ≡ Some w → str_eq_ignore_ascii_case text (word_text w) ≡ true
spelled_by text x w o true is more e =
    let same : x ≡ w = cc in
    ap (λ (y : Lexeme). str_eq_ignore_ascii_case text (word_text y)) (sym same) ∙ is
spelled_by text x w o false is more e = more e

spelled : (text : List ℕ) (words : Lexemes) (w : Lexeme) → spelled_among text words ≡ Some w → str_eq_ignore_ascii_case text (word_text w) ≡ true
spelled text [] w e = absurd (cc)
spelled text (x ∷ words) w e =
    spelled_by text x w (spelled_among text words) (str_eq_ignore_ascii_case text (word_text x)) refl (spelled text words w) e

hello_spelled : (text : List ℕ) (o : Option Lexeme) → reserved text ≡ o → word_or_name text o ≡ t.Hello → str_eq_ignore_ascii_case text (codes "HELLO") ≡ true
unfolding reserved
hello_spelled text None is e = absurd (cc)
hello_spelled text (Some w) is e = spelled text reserved_words t.Hello (is ∙ ap (λ (x : Lexeme). Some x) e)

abbrev is_hello : Lexeme → Bool
is_hello t.Hello = true
is_hello _ = false

choice : (c : Bool) (x y : Lexeme) → is_hello x ≡ false → is_hello y ≡ false → is_hello (if c then x else y) ≡ false
choice true x y a b = a
choice false x y a b = b

no_symbol : (b : ℕ) → is_hello (symbol_of b) ≡ false
no_symbol b =
    choice (b == 40) t.Open _ refl (choice (b == 41) t.Close _ refl (choice (b == 44) t.Comma _ refl (choice (b == 46) t.Dot _ refl (choice (b == 61) t.Equal _ refl
    (choice (b == 60) t.Less _ refl (choice (b == 62) t.Greater _ refl (choice (b == 43) t.Plus _ refl (choice (b == 45) t.Minus _ refl
    (choice (b == 42) t.Star t.Semicolon refl refl)))))))))

hello_word : (line : List ℕ) (start end : ℕ) (k : TokenKind) → lexeme_from line start end k ≡ t.Hello
    → str_eq_ignore_ascii_case (slice_range line start end) (codes "HELLO") ≡ true
hello_word line start end kind.Word e = hello_spelled (slice_range line start end) (reserved (slice_range line start end)) refl e
hello_word line start end (kind.Number value) e = absurd (cc)
hello_word line start end kind.Text e = absurd (cc)
hello_word line start end (kind.Symbol b) e = absurd (true≢false (sym (ap is_hello e) ∙ no_symbol b))
hello_word line start end kind.NotEqual e = absurd (cc)
hello_word line start end kind.AtMost e = absurd (cc)
hello_word line start end kind.AtLeast e = absurd (cc)

-- ---- its first byte

lower_h : (b : ℕ) → (to_ascii_lowercase b == 104) ≡ true → is_h (Some b) ≡ true
lower_h b e = by (nat_lt b 65) (nat_lt b 91) (eqb-true (to_ascii_lowercase b) 104 e)
  where
    by : (symbol capital : Bool) → (if symbol then b else (if capital then b + 32 else b)) ≡ 104 → ((b == 72) || (b == 104)) ≡ true
    by true capital is = rw is refl
    by false true is = let same : b ≡ 72 = omega arith in rw same refl
    by false false is = rw is refl

-- a text begins with an H
pub record BeginsWithH (text : List ℕ) : Type 0 where
  pub first : ℕ
  pub more : List ℕ
  pub parts : text ≡ first ∷ more
  pub is : is_h (Some first) ≡ true

begins_with_h : (text : List ℕ) → str_eq_ignore_ascii_case text (codes "HELLO") ≡ true → BeginsWithH text
begins_with_h [] e = absurd (cc)
begins_with_h (b ∷ more) e = record { first = b; more = more; parts = refl; is = lower_h b (and_parts (to_ascii_lowercase b == 104) _ e).0 }

h_cases : (b : ℕ) → is_h (Some b) ≡ true → (b ≡ 72) ⊎ (b ≡ 104)
h_cases b e = by (b == 72) refl e
  where
    by : (test : Bool) → (b == 72) ≡ test → (test || (b == 104)) ≡ true → (b ≡ 72) ⊎ (b ≡ 104)
    by true is e = inl (eqb-true b 72 is)
    by false is e = inr (eqb-true b 104 e)

h_is_no_blank : (b : ℕ) → is_h (Some b) ≡ true → is_blank b ≡ false
h_is_no_blank b e = elim (h_cases b e) [ inl is ↦ ap is_blank is | inr is ↦ ap is_blank is ]

-- ---- the first mark of a line

mark_behind : (xs ys : List ℕ) → list_all is_blank xs ≡ true → first_mark (xs ++ ys) ≡ first_mark ys
mark_behind [] ys h = refl
mark_behind (x ∷ xs) ys h =
    let p = and_parts (is_blank x) (list_all is_blank xs) h in
    rw p.0 (mark_behind xs ys p.1)

mark_by : (x b : ℕ) (o p : Option ℕ) (test : Bool) → (o ≡ Some b → p ≡ Some b) → (if test then o else Some x) ≡ Some b → (if test then p else Some x) ≡ Some b
mark_by x b o p true more h = more h
mark_by x b o p false more h = h

mark_before : (xs ys : List ℕ) (b : ℕ) → first_mark xs ≡ Some b → first_mark (xs ++ ys) ≡ Some b
mark_before [] ys b h = absurd (cc)
mark_before (x ∷ xs) ys b h = mark_by x b (first_mark xs) (first_mark (xs ++ ys)) (is_blank x) (mark_before xs ys b) h

-- a carriage return at the end is no first mark
mark_with_return : (line : List ℕ) (b : ℕ) → first_mark (without_return line) ≡ Some b → first_mark line ≡ Some b
mark_with_return line b h = by (slice_index line (length line - 1) == 13) h
  where
    by : (test : Bool) → first_mark (if test then take (length line - 1) line else line) ≡ Some b → first_mark line ≡ Some b
    by true h =
        ap first_mark (sym (take-append-drop (length line - 1) line)) ∙ mark_before (take (length line - 1) line) (drop (length line - 1) line) b h
    by false h = h

found_so : (at : ℕ) (found tokens : List Token) (a b : Bool) → (if a then Err (At at) else (if b then Err Limit else Ok found)) ≡ Ok tokens → found ≡ tokens
found_so at found tokens true b e = absurd (cc)
found_so at found tokens false true e = absurd (cc)
found_so at found tokens false false e = cc

judged_ok : (line : List ℕ) (r : Result (List Token) ℕ) (tokens : List Token) → judged line r ≡ Ok tokens → r ≡ Ok tokens
judged_ok line (Err at) tokens e = absurd (cc)
judged_ok line (Ok found) tokens e =
    let same : found ≡ tokens = found_so (utf8_valid_len line) found tokens (nat_lt (utf8_valid_len line) (length line)) (exceeds line found) e in
    rw same refl

token_marks : (line : List ℕ) (token : Token) → list_all is_blank (slice_range line 0 token.start) ≡ true → token.start ≤ token.end
    → BeginsWithH (slice_range line token.start token.end) → (b : ℕ) × (first_mark line ≡ Some b) × (is_h (Some b) ≡ true)
token_marks line token blank order h =
    let front : line ≡ slice_range line 0 token.start ++ drop token.start line = drop_split line 0 token.start (omega arith) in
    let behind : drop token.start line ≡ slice_range line token.start token.end ++ drop token.end line = drop_split line token.start token.end order in
    let parts : drop token.start line ≡ h.first ∷ (h.more ++ drop token.end line) = behind ∙ ap (λ xs. xs ++ drop token.end line) h.parts in
    let there : first_mark (drop token.start line) ≡ Some h.first = ap first_mark parts ∙ rw (h_is_no_blank h.first h.is) refl in
    (h.first, ap first_mark front ∙ mark_behind (slice_range line 0 token.start) (drop token.start line) blank ∙ there, h.is)

marked : (line : List ℕ) (tokens : List Token) → lexed line ≡ Ok tokens → Begins (lexemes_of (without_return line) tokens) → is_h (first_mark line) ≡ true
marked line [] read begins = let none = begins.1 in absurd (cc)
marked line (token ∷ tokens) read begins =
    let laid : IsLaidOut (without_return line) 0 (token ∷ tokens) =
    tokens_laid_out (without_return line) (token ∷ tokens) (judged_ok (without_return line) (tokens_of (without_return line)) (token ∷ tokens) read) in
    let both = begins.1 in
    let first : lexeme_of (without_return line) token ≡ t.Hello = cc in
    let text = begins_with_h (slice_range (without_return line) token.start token.end) (hello_word (without_return line) token.start token.end token.kind first) in
    let mark = token_marks (without_return line) token laid.3 (omega (arith, laid.1)) text in
    ap is_h (mark_with_return line mark.0 mark.1) ∙ mark.2

hello_mark : (line name key : List ℕ) → parsed line ≡ Ok (q.Hello name key) → is_h (first_mark line) ≡ true
hello_mark line name key e =
    let r = (parsed_is_request line (q.Hello name key)).0 e in
    marked line r.tokens r.read (line_begins written (lexemes_of (without_return line) r.tokens) (q.Hello name key) refl r.spelled)

-- a line with another first mark is no HELLO
pub other_mark : (line : List ℕ) → is_h (first_mark line) ≡ false → said_key (parsed line) ≡ None
other_mark line h = by (parsed line) refl
  where
    by : (p : Result Request ParseFault) → parsed line ≡ p → said_key p ≡ None
    by (Ok (q.Hello name key)) e = absurd (true≢false (sym (hello_mark line name key e) ∙ h))
    by _ e = refl
