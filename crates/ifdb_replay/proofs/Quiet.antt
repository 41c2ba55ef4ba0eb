-- From a line's first word to its first lexeme.
use Rattle.std.proofs.Common.{◌≡◌, inl, inr, ℕ, suc, ◌+◌, ◌-◌, Bool, true, false, List, [], ◌∷◌, ◌++◌, length, take, drop, get_or, ◌<◌, refl, sym, ap, subst, ◌∙◌, arith, append_assoc, length-append}
use Rattle.std.specs.Prelude.{Some, Result, Ok, Err, ⊤, if◌then◌else◌, slice_index, slice_range, nat_lt, ◌==◌}
use Rattle.std.specs.List.{prefix_len}
use Rattle.std.specs.Char.{to_ascii_lowercase}
use Rattle.std.proofs.lemmas.List.{drop_at, take_all, take_more}
use Rattle.std.proofs.lemmas.Bool.Decides.{nat_tests}
use Rattle.ifdb_value.specs.Name.{folded}
use Rattle.ifdb_syntax.specs.declared.request.Request.{Request}
use Rattle.ifdb_syntax.specs.declared.lexeme.Lexeme.TheVariants as t
use Rattle.ifdb_syntax.specs.Words.{Lexemes}
use Rattle.ifdb_lex.specs.declared.token.Token.{Token}
use Rattle.ifdb_lex.specs.declared.token.TokenKind.TheVariants as kind
use Rattle.ifdb_lex.specs.declared.fault.LexFault.TheVariants.{At, Limit}
use Rattle.ifdb_lex.specs.Limits.{exceeds}
use Rattle.std.specs.Str.Lossy.{utf8_valid_len}
use Rattle.ifdb_parse.specs.declared.fault.ParseFault.TheVariants as fault
use Rattle.ifdb_lex.specs.Front.{begins_word, is_word_byte, word, front}
use Rattle.ifdb_lex.specs.Line.{is_blank, tokens_from, tokens_of, first_and, before, token_at, without_return}
use Rattle.ifdb_lex.specs.Lex.{judged as judged_tokens}
use Rattle.ifdb_parse.specs.declared.fault.ParseFault.{ParseFault}
use Rattle.ifdb_parse.specs.Lexemes.{reserved, word_or_name, lexeme_of, lexeme_from, lexemes_of}
use Rattle.ifdb_parse.specs.Parsed.{parsed, parsed_lexed, judged, limited}
use Rattle.ifdb_parse.specs.TreeLimits.{exceeds_tree}
use Rattle.ifdb_parse.specs.rules.Requests.{whole}
use Rattle.ifdb_replay.specs.FirstWord.{LooksAt, LooksOnly, after_blanks, word_front, first_word, QuietLines}
use Rattle.ifdb_replay.proofs.Words.{folds}
use Rattle.ifdb_replay.proofs.Grammar.{grammar}

pick : {A : Type 0} (b : Bool) (x y : A) → b ≡ true → (if b then x else y) ≡ x
pick true x y is = refl
pick false x y is = absurd (cc is)

-- the first token, if the tokens have no fault, is this word of the line
abbrev pub FirstIs : List ℕ → List ℕ → Result (List Token) ℕ → Type 0
FirstIs line text (Err at) = ⊤
FirstIs line text (Ok []) = ⊥
FirstIs line text (Ok (token ∷ tokens)) = (token.kind ≡ kind.Word) × (slice_range line token.start token.end ≡ text)

-- a word begins there
abbrev pub BeginsWord : List ℕ → Type 0
BeginsWord [] = ⊥
BeginsWord (b ∷ text) = begins_word b ≡ true

word_first : (pre text : List ℕ) (at len : ℕ) → at ≡ length pre → (rest : Result (List Token) ℕ) → FirstIs (pre ++ text) (take len text) (before (token_at at (kind.Word, len)) rest)
word_first pre text at len is (Err e) = tt
word_first pre text at len is (Ok tokens) =
    let size : at + len - at ≡ len = omega arith in
    (refl, ap (λ n. take n (drop at (pre ++ text))) size ∙ ap (take len) (drop_at pre text at (sym is)))

front_is : (b : ℕ) (text : List ℕ) → begins_word b ≡ true → front (b ∷ text) ≡ Some (word (b ∷ text))
front_is b text is = pick (begins_word b) (Some (word (b ∷ text))) _ is

first_is : (pre text : List ℕ) (at : ℕ) → at ≡ length pre → BeginsWord (after_blanks text) → FirstIs (pre ++ text) (first_word text) (tokens_from at 0 text)
first_is pre [] at is begins = absurd begins
first_is pre (b ∷ text) at is begins =
    let next : at + 1 ≡ length (pre ++ b ∷ []) = omega (arith, is, length-append pre (b ∷ [])) in
    by_blank (λ starts. first_is (pre ++ b ∷ []) text (at + 1) next starts) (is_blank b) begins
  where
    by_blank : (BeginsWord (after_blanks text) → FirstIs ((pre ++ b ∷ []) ++ text) (first_word text) (tokens_from (at + 1) 0 text)) → (q : Bool) → BeginsWord (if q then after_blanks text else b ∷ text)
        → FirstIs (pre ++ b ∷ text) (word_front (if q then after_blanks text else b ∷ text)) (if q then tokens_from (at + 1) 0 text else first_and at (front (b ∷ text)) (λ len. tokens_from (at + 1) (len - 1) text))
    by_blank behind true starts = subst (λ line. FirstIs line (first_word text) (tokens_from (at + 1) 0 text)) (append_assoc pre (b ∷ []) text) (behind starts)
    by_blank behind false starts =
        let len = prefix_len is_word_byte (b ∷ text) in
        subst (λ f. FirstIs (pre ++ b ∷ text) (take len (b ∷ text)) (first_and at f (λ n. tokens_from (at + 1) (n - 1) text))) (sym (front_is b text starts)) (word_first pre (b ∷ text) at len is (tokens_from (at + 1) (len - 1) text))

low_begins : (b : ℕ) → to_ascii_lowercase b ≡ 115 → begins_word b ≡ true
low_begins b is = grind (arith, nat_tests, is)

begins : (text : List ℕ) (more : List ℕ) → folded (word_front text) ≡ 115 ∷ more → BeginsWord text
begins [] more is = absurd (cc is)
begins (b ∷ text) more is = by_byte (is_word_byte b) is
  where
    by_byte : (q : Bool) → folded (take (if q then 1 + prefix_len is_word_byte text else 0) (b ∷ text)) ≡ 115 ∷ more → begins_word b ≡ true
    by_byte true same =
        let one : suc (prefix_len is_word_byte text) ≡ 1 + prefix_len is_word_byte text = omega arith in
        let here : folded (take (suc (prefix_len is_word_byte text)) (b ∷ text)) ≡ 115 ∷ more = ap (λ k. folded (take k (b ∷ text))) one ∙ same in
        let first : to_ascii_lowercase b ≡ 115 = cc here in low_begins b first
    by_byte false same = absurd (cc same)

limited_looks : (lexemes : Lexemes) (r : Request) → LooksAt r → LooksOnly (limited lexemes r)
limited_looks lexemes r looks = by_limit (exceeds_tree lexemes r)
  where
    by_limit : (q : Bool) → LooksOnly {E = ParseFault} (if q then Err fault.Limit else Ok r)
    by_limit true = tt
    by_limit false = looks

judged_looks : (line : List ℕ) (tokens : List Token) (lexemes : Lexemes) (out : Result Request ℕ) → LooksOnly out → LooksOnly (judged line tokens lexemes out)
judged_looks line tokens lexemes (Ok r) looks = limited_looks lexemes r looks
judged_looks line tokens lexemes (Err left) looks = tt

tokens_look : (line text : List ℕ) (found : Result (List Token) ℕ) → FirstIs line text found → ((s : Lexemes) → LooksOnly (whole (word_or_name text (reserved text) ∷ s)))
    → LooksOnly (parsed_lexed line (judged_tokens line found))
tokens_look line text (Err at) first looks = tt
tokens_look line text (Ok []) first looks = absurd first
tokens_look line text (Ok (token ∷ tokens)) first looks = by_tests (nat_lt (utf8_valid_len line) (length line)) (exceeds line (token ∷ tokens))
  where
    lexeme_is : lexeme_of line token ≡ word_or_name text (reserved text)
    lexeme_is = (λ i. lexeme_from line token.start token.end (first.0 i)) ∙ ap (λ x. word_or_name x (reserved x)) first.1

    by_tests : (a b : Bool) → LooksOnly (parsed_lexed line (if a then Err (At (utf8_valid_len line)) else (if b then Err Limit else Ok (token ∷ tokens))))
    by_tests true b = tt
    by_tests false true = tt
    by_tests false false = judged_looks line (token ∷ tokens) (lexemes_of line (token ∷ tokens)) (whole (lexemes_of line (token ∷ tokens)))
        (subst (λ x. LooksOnly (whole (x ∷ lexemes_of line tokens))) (sym lexeme_is) (looks (lexemes_of line tokens)))

line_looks : (line : List ℕ) → ((s : Lexemes) → LooksOnly (whole (word_or_name (first_word (without_return line)) (reserved (first_word (without_return line))) ∷ s)))
    → BeginsWord (after_blanks (without_return line)) → LooksOnly (parsed line)
unfolding parsed
line_looks line looks starts = tokens_look (without_return line) (first_word (without_return line)) (tokens_of (without_return line)) (first_is [] (without_return line) 0 refl starts) looks

-- ---- one carriage return at the end is in no word

front_step : (b : ℕ) (text : List ℕ) (q : Bool) → is_word_byte b ≡ q → word_front (b ∷ text) ≡ (if q then b ∷ word_front text else [])
front_step b text true is =
    let n = prefix_len is_word_byte text in
    let one : 1 + n ≡ suc n = omega arith in
    ap (λ c. take (if c then 1 + n else 0) (b ∷ text)) is ∙ ap (λ k. take k (b ∷ text)) one
front_step b text false is = ap (λ c. take (if c then 1 + prefix_len is_word_byte text else 0) (b ∷ text)) is

word_front_more : (text : List ℕ) → word_front (text ++ 13 ∷ []) ≡ word_front text
word_front_more [] = refl
word_front_more (b ∷ text) =
    front_step b (text ++ 13 ∷ []) (is_word_byte b) refl ∙ ap (λ (l : List ℕ). if is_word_byte b then b ∷ l else []) (word_front_more text) ∙ sym (front_step b text (is_word_byte b) refl)

first_word_more : (text : List ℕ) → first_word (text ++ 13 ∷ []) ≡ first_word text
first_word_more [] = refl
first_word_more (b ∷ text) = by_blank (first_word_more text) (is_blank b)
  where
    by_blank : first_word (text ++ 13 ∷ []) ≡ first_word text → (q : Bool)
        → word_front (if q then after_blanks (text ++ 13 ∷ []) else b ∷ (text ++ 13 ∷ [])) ≡ word_front (if q then after_blanks text else b ∷ text)
    by_blank behind true = behind
    by_blank behind false = word_front_more (b ∷ text)

same_word : (line : List ℕ) → first_word (without_return line) ≡ first_word line
same_word [] = refl
same_word (first ∷ rest) = by_end (slice_index (first ∷ rest) (length (first ∷ rest) - 1) == 13) refl
  where
    line : List ℕ
    line = first ∷ rest

    by_end : (q : Bool) → (slice_index line (length line - 1) == 13) ≡ q → first_word (if q then take (length line - 1) line else line) ≡ first_word line
    by_end false is = refl
    by_end true is =
        let last = length line - 1 in
        let some : 0 < length line = omega arith in
        let ends : get_or line last 0 ≡ 13 = grind (arith, nat_tests, is) in
        let size : last + 1 ≡ length line = omega (arith, some) in
        let all : line ≡ take last line ++ 13 ∷ [] =
        sym (take_all (length line) line (omega arith)) ∙ ap (λ k. take k line) (sym size) ∙ take_more line last 0 (omega (arith, some)) ∙ ap (λ (b : ℕ). take last line ++ b ∷ []) ends in
        sym (ap first_word all ∙ first_word_more (take last line))

pub quiet_lines : QuietLines
quiet_lines line (inl says) =
    let text = first_word (without_return line) in
    let said = ap folded (same_word line) ∙ says in
    let word_is : word_or_name text (reserved text) ≡ t.Select = ap (word_or_name text) ((folds text).0 said) in
    line_looks line (λ s. subst (λ x. LooksOnly (whole (x ∷ s))) (sym word_is) (grammar s).0) (begins (after_blanks (without_return line)) _ said)
quiet_lines line (inr says) =
    let text = first_word (without_return line) in
    let said = ap folded (same_word line) ∙ says in
    let word_is : word_or_name text (reserved text) ≡ t.Show = ap (word_or_name text) ((folds text).1 said) in
    line_looks line (λ s. subst (λ x. LooksOnly (whole (x ∷ s))) (sym word_is) (grammar s).1) (begins (after_blanks (without_return line)) _ said)
