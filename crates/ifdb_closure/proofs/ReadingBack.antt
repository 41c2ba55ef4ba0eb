-- The program's reading of lines reads back the HELLO and the SET LABEL that a call writes.
use Rattle.std.proofs.Common.{◌≡◌, ℕ, ◌≤◌, ◌<◌, ◌&&◌, Bool, true, false, List, [], ◌∷◌, ◌++◌, length, get_or, refl, sym, ap, subst, ◌∙◌, arith, cond, ltb, Some, None, Ok, Err, Option, Result, inl, inr}
use Rattle.std.specs.Prelude.{not, option_to_list, is_some, All}
use Rattle.std.specs.List.{list_all}
use Rattle.std.specs.Str.{chars, is_utf8}
use Rattle.std.specs.Str.Lossy.{utf8_valid_len}
use lib.Utf8.{encode}
use Rattle.std.proofs.lemmas.Bool.{false≢true, and_parts, ltb-true}
use Rattle.std.proofs.lemmas.Bool.Decides.{nat_tests}
use Rattle.std.proofs.lemmas.List.{get_or-map, length-map}
use Rattle.std.proofs.lemmas.List.Elements.{All-nil, All-push}
use Rattle.ifdb_value.specs.Name.{is_name}
use Rattle.ifdb_label.specs.Tags.{are_made, lone_tag}
use Rattle.ifdb_bound.specs.declared.request.Bound.{Bound}
use Rattle.ifdb_bound.specs.declared.request.Bound.TheVariants as bound
use Rattle.ifdb_bound.specs.declared.request.Change.{Change}
use Rattle.ifdb_bound.specs.declared.request.Change.TheVariants as change
use Rattle.ifdb_syntax.specs.declared.lexeme.Lexeme.{Lexeme}
use Rattle.ifdb_syntax.specs.declared.lexeme.Lexeme.TheVariants as t
use Rattle.ifdb_syntax.specs.declared.request.Request.{Request}
use Rattle.ifdb_syntax.specs.declared.request.Request.TheVariants as request
use Rattle.ifdb_syntax.specs.Words.{Lexemes}
use Rattle.ifdb_syntax.specs.canonical.Tokens.{behind, name_tokens, names_tokens}
use Rattle.ifdb_syntax.specs.canonical.Requests.{tag_words, request_tokens}
use Rattle.ifdb_syntax.specs.canonical.Text.{canonical_text}
use Rattle.ifdb_wire.specs.declared.fault.Fault.{Fault}
use Rattle.ifdb_wire.specs.declared.fault.Fault.TheVariants as fault
use Rattle.ifdb_parse.specs.declared.fault.ParseFault.{ParseFault}
use Rattle.ifdb_parse.specs.Lexemes.{reserved}
use Rattle.ifdb_parse.specs.Parsed.{parsed}
use Rattle.ifdb_parse.specs.rules.Shared.{token as token_parser, name as name_parser, text as text_parser}
use Rattle.ifdb_parse.specs.rules.Requests.{hello as hello_parser, authority as authority_parser, session as session_parser, request as request_parser, line as line_parser, whole}
use Rattle.ifdb_parse.proofs.back.Lighter.{Sound, AllSound, Shallow, nots, sound_append, nots-append}
use Rattle.ifdb_parse.proofs.written.ReadsBack.{parsed_reads_back, read_sound, read_as}
use Rattle.ifdb_catalog.specs.Public.{Public, KnownTag, opening as first_public, tags_of, tag_names, changed}
use Rattle.ifdb_catalog.specs.Binding.{bound as bound_request}
use Rattle.ifdb_catalog.proofs.Judging.{accepted}
use Rattle.ifdb_model.specs.Log.{Entry, public_from, public_of}
use Rattle.ifdb_model.specs.Session.{Session, closed, seen}
use Rattle.ifdb_model.specs.Step.{Outcome, ask}
use Rattle.ifdb_model.specs.Run.{State, opening, session_of, Step, opens, asks, refused, long, stray, leaves, with_outcome, with_session, next, run}
use Rattle.ifdb_model.proofs.LogLaws.{public_from-append}
use Rattle.ifdb_laws.proofs.Shapes.{Shape, stayed, greeted_as, relabelled_to, begun, ended, published, joined, wrote, done, shape}
use Rattle.ifdb_db.specs.Reading.{read_line, request_or_fault}
use Rattle.ifdb_closure.specs.Closures.{nobody, hello_line, names_of, label_line}
use Rattle.ifdb_closure.specs.Bounds.{ReadsHellosBack}
use Rattle.ifdb_closure.specs.Laws.{is_hello, ReadsBack}

-- ---- names that a token says

abbrev is_said : List ℕ → Bool
is_said n = is_name n && not (is_some (reserved n))

none_of : (o : Option Lexeme) → not (is_some o) ≡ true → o ≡ None
none_of None h = refl
none_of (Some x) h = absurd (false≢true h)

said_sound : (n : List ℕ) → is_said n ≡ true → Sound (t.Name n)
said_sound n h = let both = and_parts (is_name n) (not (is_some (reserved n))) h in (both.0, none_of (reserved n) both.1)

sound_said : (n : List ℕ) → Sound (t.Name n) → is_said n ≡ true
sound_said n h = rw (h.0, h.1) refl

head_sound : (x : Lexeme) (s : Lexemes) → AllSound (x ∷ s) → Sound x
head_sound x s h = h.0

tail_sound : (x : Lexeme) (s : Lexemes) → AllSound (x ∷ s) → AllSound s
tail_sound x s h = h.1

-- ---- a tag's name is that of a line that was read

-- what a line is read as by the grammar
parsed_so : (line : List ℕ) (r : Request) → read_line line ≡ Ok r → parsed line ≡ Ok r
parsed_so line r h = by (parsed line) h where
  by : (o : Result Request ParseFault) → request_or_fault o ≡ Ok r → o ≡ Ok r
  by (Ok x) e = let same : x ≡ r = cc in ap Ok same
  by (Err f) e = absurd (cc)

-- a tag that the request makes has a name that a token says
abbrev says : Request → Bool
says (request.CreateTag name compound parents) = is_said name
says _ = true

abbrev says_tree : Bound → Bool
says_tree (bound.Change (change.Tag asker name kind parents)) = is_said name
says_tree _ = true

abbrev says_found : Result Bound Fault → Bool
says_found (Ok x) = says_tree x
says_found (Err f) = true

tag_said : (compound : Bool) (name : List ℕ) (rest : Lexemes) → AllSound (tag_words compound ++ t.Name name ∷ rest) → is_said name ≡ true
tag_said true name rest h =
    sound_said name (head_sound (t.Name name) rest (tail_sound t.Tag (t.Name name ∷ rest) (tail_sound t.Compound (t.Tag ∷ t.Name name ∷ rest) (tail_sound t.Create (t.Compound ∷ t.Tag ∷ t.Name name ∷ rest) h))))
tag_said false name rest h =
    sound_said name (head_sound (t.Name name) rest (tail_sound t.Tag (t.Name name ∷ rest) (tail_sound t.Create (t.Tag ∷ t.Name name ∷ rest) h)))

read_says : (line : List ℕ) (r : Request) → parsed line ≡ Ok r → says r ≡ true
read_says line (request.CreateTag name compound parents) h = tag_said compound name _ (read_sound line (request.CreateTag name compound parents) h)
read_says line _ h = refl

bound_says : (p : Public) (asker : ℕ) (r : Request) (x : Bound) → says r ≡ true → bound_request p asker r ≡ Ok x → says_tree x ≡ true
unfolding bound_request
bound_says p asker (request.CreatePrincipal name key clearance) x h e = accepted says_tree _ _ x e (λ k. refl)
bound_says p asker (request.CreateTag name compound parents) x h e = accepted says_tree _ _ x e (λ k. h)
bound_says p asker (request.CreateTable name columns key foreign) x h e = accepted says_tree _ _ x e (λ k. refl)
bound_says p asker (request.CreateView name s tags) x h e = accepted says_tree _ _ x e (λ k. refl)
bound_says p asker (request.Grant tag to) x h e = accepted says_tree _ _ x e (λ k. refl)
bound_says p asker (request.Revoke tag from) x h e = accepted says_tree _ _ x e (λ k. refl)
bound_says p asker (request.SetLabel tags) x h e = accepted says_tree _ _ x e (λ k. refl)
bound_says p asker (request.Select s) x h e = accepted says_tree _ _ x e (λ k. refl)
bound_says p asker (request.Insert table names rows tags) x h e = accepted says_tree _ _ x e (λ k. refl)
bound_says p asker (request.Update table sets found tags) x h e = accepted says_tree _ _ x e (λ k. refl)
bound_says p asker (request.Delete table found) x h e = accepted says_tree _ _ x e (λ k. refl)
bound_says p asker (request.Hello name key) x h e = ap says_found (sym e)
bound_says p asker request.ShowLabel x h e = ap says_found (sym e)
bound_says p asker request.Begin x h e = ap says_found (sym e)
bound_says p asker request.Commit x h e = ap says_found (sym e)
bound_says p asker request.Rollback x h e = ap says_found (sym e)
bound_says p asker request.Bye x h e = ap says_found (sym e)

abbrev AreSaid : List KnownTag → Type 0
AreSaid tags = All (λ (x : KnownTag). is_said x.name ≡ true) tags

change_said : (p : Public) (c : Change) → AreSaid p.tags → says_tree (bound.Change c) ≡ true → AreSaid (changed p c).tags
change_said p (change.Principal asker name key clearance) a h = a
change_said p (change.Tag asker name kind parents) a h = All-push (λ (x : KnownTag). is_said x.name ≡ true) p.tags _ a h
change_said p (change.Table asker schema) a h = a
change_said p (change.View view) a h = a
change_said p (change.Grant asker tag to) a h = a
change_said p (change.Revoke asker tag from) a h = a

added_said : (log : List Entry) (s : Session) (line : List ℕ) (o : Outcome) → Shape log s (read_line line) o → AreSaid (public_of log).tags
    → AreSaid (public_from (public_of log) (option_to_list o.added)).tags
added_said log s line o (stayed r) a = a
added_said log s line o (greeted_as n g lt) a = a
added_said log s line o (relabelled_to asker r label p x y) a = a
added_said log s line o (begun t) a = a
added_said log s line o (ended b r why) a = a
added_said log s line o (published asker r c line_is t e f g) a =
    change_said (public_of log) c a (bound_says (seen log s).public asker r (bound.Change c) (read_says line r (parsed_so line r line_is)) f)
added_said log s line o (joined asker r b x w i t h) a = a
added_said log s line o (wrote asker r b w i t h d) a = a
added_said log s line o (done x t j) a = a

next_said : (st : State) (x : Step) → AreSaid (public_of st.log).tags → AreSaid (public_of (next read_line st x).log).tags
next_said st opens a = a
next_said st (asks n line) a = by (session_of st n).is_open where
  by : (b : Bool) → AreSaid (public_of (cond b (with_outcome st n (ask read_line st.log (session_of st n) line)) st).log).tags
  by false = a
  by true =
      let o = ask read_line st.log (session_of st n) line in
      subst (λ (p : Public). AreSaid p.tags) (sym (public_from-append first_public st.log (option_to_list o.added)))
      (added_said st.log (session_of st n) line o (shape read_line st.log (session_of st n) line) a)
next_said st (refused n) a = a
next_said st long a = a
next_said st stray a = a
next_said st (leaves n) a = by (session_of st n).is_open where
  by : (b : Bool) → AreSaid (public_of (cond b (with_session st n (closed (session_of st n))) st).log).tags
  by false = a
  by true = a

run_said : (st : State) (steps : List Step) → AreSaid (public_of st.log).tags → AreSaid (public_of (run read_line st steps).log).tags
run_said st [] a = a
run_said st (x ∷ steps) a = run_said (next read_line st x) steps (next_said st x a)

no_tag : KnownTag
no_tag = record { name = []; made = lone_tag; owner = 0 }

names_said : (p : Public) → AreSaid p.tags → (label : List ℕ) → are_made (length (tags_of p)) label ≡ true → list_all is_said (names_of p label) ≡ true
names_said p a [] h = refl
names_said p a (tag ∷ label) h =
    let parts : (ltb tag (length (tags_of p)) ≡ true) × (are_made (length (tags_of p)) label ≡ true) = grind (arith, nat_tests) in
    let lt : tag < length p.tags = omega (arith, ltb-true tag (length (tags_of p)) parts.0, length-map p.tags (λ (x : KnownTag). x.made)) in
    let one : is_said (get_or (tag_names p) tag []) ≡ true = ap is_said (get_or-map (λ (x : KnownTag). x.name) p.tags tag no_tag [] lt) ∙ a tag no_tag lt in
    let rest = names_said p a label parts.1 in
    rw one rest

-- ---- the lexemes of SET LABEL

behind_sound : (ns : List (List ℕ)) → list_all is_said ns ≡ true → AllSound (behind t.Comma name_tokens ns)
behind_sound [] h = tt
behind_sound (n ∷ ns) h =
    let both = and_parts (is_said n) (list_all is_said ns) h in
    sound_append (t.Comma ∷ t.Name n ∷ []) (behind t.Comma name_tokens ns) (tt, (said_sound n both.0, tt)) (behind_sound ns both.1)

names_sound : (ns : List (List ℕ)) → list_all is_said ns ≡ true → AllSound (names_tokens ns)
names_sound [] h = tt
names_sound (n ∷ ns) h =
    let both = and_parts (is_said n) (list_all is_said ns) h in
    sound_append (t.Name n ∷ []) (behind t.Comma name_tokens ns) (said_sound n both.0, tt) (behind_sound ns both.1)

label_sound : (ns : List (List ℕ)) → list_all is_said ns ≡ true → AllSound (request_tokens (request.SetLabel ns))
label_sound ns h = (tt, (tt, (tt, sound_append (names_tokens ns) (t.Close ∷ []) (names_sound ns h) (tt, tt))))

behind_shallow : (ns : List (List ℕ)) → Shallow 1 (behind t.Comma name_tokens ns ++ t.Close ∷ [])
behind_shallow [] = (omega arith, tt)
behind_shallow (n ∷ ns) = (omega arith, (omega arith, behind_shallow ns))

names_shallow : (ns : List (List ℕ)) → Shallow 1 (names_tokens ns ++ t.Close ∷ [])
names_shallow [] = (omega arith, tt)
names_shallow (n ∷ ns) = (omega arith, behind_shallow ns)

label_shallow : (ns : List (List ℕ)) → Shallow 0 (request_tokens (request.SetLabel ns))
label_shallow ns = (omega arith, (omega arith, (omega arith, names_shallow ns)))

behind_nots : (ns : List (List ℕ)) → nots (behind t.Comma name_tokens ns) ≡ 0
behind_nots [] = refl
behind_nots (n ∷ ns) = let rest = behind_nots ns in omega (arith, rest)

names_nots : (ns : List (List ℕ)) → nots (names_tokens ns) ≡ 0
names_nots [] = refl
names_nots (n ∷ ns) = let rest = behind_nots ns in omega (arith, rest)

label_few : (ns : List (List ℕ)) → nots (request_tokens (request.SetLabel ns)) ≤ 64
label_few ns = let all = nots-append (names_tokens ns) (t.Close ∷ []) in let none = names_nots ns in omega (arith, all, none)

-- ---- both lines

-- nobody's HELLO is no request
nobody_unread : read_line (hello_line nobody) ≡ Err (fault.Syntax 7)
unfolding parsed canonical_text reserved token_parser name_parser text_parser hello_parser authority_parser session_parser request_parser line_parser whole utf8_valid_len is_utf8 chars encode
nobody_unread = refl

pub hellos_read_back : ReadsHellosBack read_line
hellos_read_back g (inl h) r e =
    let back = parsed_reads_back h.0 (request.Hello g.name g.key) (parsed_so h.0 (request.Hello g.name g.key) h.1) in
    let too = parsed_so (hello_line g) r e in
    let same : r ≡ request.Hello g.name g.key = cc in
    same
hellos_read_back g (inr n) r e =
    let no : Err (fault.Syntax 7) ≡ Ok r = sym nobody_unread ∙ (ap (λ z. read_line (hello_line z)) (sym n) ∙ e) in absurd (cc)

pub lines_read_back : ReadsBack read_line
lines_read_back = record {
  hello = λ g heard r e. ap is_hello (hellos_read_back g heard r e);
  label = λ steps label made r e.
      let log = (run read_line opening steps).log in
      let names = names_of (public_of log) label in
      let said = names_said (public_of log) (run_said opening steps (All-nil (λ (x : KnownTag). is_said x.name ≡ true))) label made in
      read_as (request.SetLabel names) refl (label_sound names said) (label_shallow names) (label_few names) r (parsed_so (label_line log label) r e);
}
