-- Each tag's name stands for it, so the names of a label stand for the label; and what a call says of itself adds nothing.
use Rattle.std.proofs.Common.{◌≡◌, ℕ, ◌-◌, ◌<◌, ◌≤◌, Bool, true, false, List, [], ◌∷◌, ◌++◌, length, get_or, refl, sym, ap, subst, ◌∙◌, arith, cond, ltb, Some, None, Ok, Err, Option, Result, inl, inr}
use Rattle.std.specs.Prelude.{not, option_to_list, is_some, bytes_eq, position}
use Rattle.std.specs.List.{position_or_len}
use Rattle.std.proofs.lemmas.Bool.{false≢true, cases_lt, lt-ltb, ltb-true}
use Rattle.std.proofs.lemmas.Bool.Decides.{nat_tests}
use Rattle.std.proofs.lemmas.List.{get_or_append_left, get_or-append_right, get_or-map, length-map, length-append}
use Rattle.std.proofs.lemmas.List.Sums.{position_or_len_is, fails_before_first}
use Rattle.ifdb_label.specs.Tags.{MadeTag, lone_tag, are_made}
use Rattle.ifdb_label.specs.Label.{flows}
use Rattle.ifdb_label.proofs.LabelLaws.{reduce_flows}
use Rattle.ifdb_bound.specs.declared.request.Bound.TheVariants as bound
use Rattle.ifdb_bound.specs.declared.request.Change.{Change}
use Rattle.ifdb_bound.specs.declared.request.Change.TheVariants as change
use Rattle.ifdb_syntax.specs.declared.request.Request.{Request}
use Rattle.ifdb_syntax.specs.declared.request.Request.TheVariants as request
use Rattle.ifdb_wire.specs.declared.fault.Fault.{Fault}
use Rattle.ifdb_wire.specs.declared.fault.Fault.TheVariants as fault
use Rattle.ifdb_wire.specs.declared.reply.Reply.TheVariants as reply
use Rattle.ifdb_catalog.specs.Public.{Public, KnownTag, opening as first_public, tags_of, tag_names, principal_named, is_key, changed}
use Rattle.ifdb_catalog.specs.Check.{judged}
use Rattle.ifdb_catalog.specs.Queries.{place_or}
use Rattle.ifdb_catalog.specs.Statements.{tag_at, tags_named, are_tags, label_named}
use Rattle.ifdb_catalog.specs.Binding.{bound as bound_request}
use Rattle.ifdb_catalog.specs.Fits.{is_new}
use Rattle.ifdb_catalog.proofs.BoundChangesAreNew.{changes_are_new}
use Rattle.ifdb_model.specs.Log.{Entry, all_tags, public_from, public_of}
use Rattle.ifdb_model.specs.Session.{Txn, Session, seen_in, seen}
use Rattle.ifdb_model.specs.Step.{Reader, Outcome, tells, refuses, welcomed, greeted, label_refusal, relabelled_as, set_label, ask_read, ask_by, ask}
use Rattle.ifdb_model.specs.Run.{State, opening, session_of, Step, opens, asks, refused, long, stray, leaves, with_outcome, with_session, next, run}
use Rattle.ifdb_model.proofs.LogLaws.{public_from-append}
use Rattle.ifdb_laws.proofs.Shapes.{Shape, stayed, greeted_as, relabelled_to, begun, ended, published, joined, wrote, done, shape}
use Rattle.ifdb_laws.proofs.two_worlds.Sound.{opening_sound, run_sound}
use Rattle.ifdb_closure.specs.Closures.{hello_line, names_of, label_line, is_refusal}
use Rattle.ifdb_closure.specs.Laws.{Greets, is_hello, SpeaksBack}

bytes_itself : (xs : List ℕ) → bytes_eq xs xs ≡ true
bytes_itself [] = refl
bytes_itself (x ∷ xs) = grind (arith, nat_tests, bytes_itself xs)

abbrev no_tag : KnownTag
no_tag = record { name = []; made = lone_tag; owner = 0 }

-- no two have one name
record AreApart (tags : List KnownTag) : Type 0 where
  apart : (i j : ℕ) → i < j → j < length tags → bytes_eq (get_or tags i no_tag).name (get_or tags j no_tag).name ≡ false

-- what isn't found is nowhere
not_found : {X : Type 0} (p : X → Bool) (xs : List X) → is_some (position p xs) ≡ false → length xs ≤ position_or_len p xs
not_found p xs h = elim (cases_lt (position_or_len p xs) (length xs)) [ inl lt ↦ absurd (by (ltb (position_or_len p xs) (length xs)) (lt-ltb (position_or_len p xs) (length xs) lt) h) | inr le ↦ le ] where
  by : (b : Bool) → b ≡ true → is_some (cond b (Some (position_or_len p xs)) None) ≡ false → ⊥
  by true e i = false≢true (sym i)
  by false e i = false≢true e

apart_push : (tags : List KnownTag) (t : KnownTag) → AreApart tags → is_some (position (λ (x : KnownTag). bytes_eq x.name t.name) tags) ≡ false → AreApart (tags ++ t ∷ [])
apart_push tags t a none = record { apart = at } where
  left : (i : ℕ) → i < length tags → get_or (tags ++ t ∷ []) i no_tag ≡ get_or tags i no_tag
  left i lt = get_or_append_left tags (t ∷ []) no_tag i lt

  last : (j : ℕ) → length tags ≤ j → j < length (tags ++ t ∷ []) → get_or (tags ++ t ∷ []) j no_tag ≡ t
  last j le lt =
      let zero_at : j - length tags ≡ 0 = omega (arith, le, lt, length-append tags (t ∷ [])) in
      get_or-append_right tags (t ∷ []) (length tags) j no_tag refl le ∙ ap (λ k. get_or (t ∷ []) k no_tag) zero_at

  at : (i j : ℕ) → i < j → j < length (tags ++ t ∷ []) → bytes_eq (get_or (tags ++ t ∷ []) i no_tag).name (get_or (tags ++ t ∷ []) j no_tag).name ≡ false
  at i j lt within = elim (cases_lt j (length tags)) [
    | inl l ↦ (λ k. bytes_eq (left i (omega (arith, lt, l)) k).name (left j l k).name) ∙ a.apart i j lt l
    | inr le ↦
        let first : i < length tags = omega (arith, lt, le, within, length-append tags (t ∷ [])) in
        (λ k. bytes_eq (left i first k).name (last j le within k).name)
        ∙ fails_before_first (λ (x : KnownTag). bytes_eq x.name t.name) tags i no_tag (omega (arith, first, not_found (λ (x : KnownTag). bytes_eq x.name t.name) tags none))
  ]

-- ---- in every run

change_apart : (p : Public) (c : Change) → AreApart p.tags → is_new p c ≡ true → AreApart (changed p c).tags
change_apart p (change.Principal asker name key clearance) a h = a
change_apart p (change.Tag asker name kind parents) a h = apart_push p.tags _ a (grind (arith, nat_tests))
change_apart p (change.Table asker schema) a h = a
change_apart p (change.View view) a h = a
change_apart p (change.Grant asker tag to) a h = a
change_apart p (change.Revoke asker tag from) a h = a

added_apart : (log : List Entry) (s : Session) (line : Result Request Fault) (o : Outcome) → Shape log s line o → AreApart (public_of log).tags
    → AreApart (public_from (public_of log) (option_to_list o.added)).tags
added_apart log s line o (stayed r) a = a
added_apart log s line o (greeted_as n g lt) a = a
added_apart log s line o (relabelled_to asker r label p x y) a = a
added_apart log s line o (begun t) a = a
added_apart log s line o (ended b r why) a = a
added_apart log s line o (published asker r c line_is t e f g) a =
    change_apart (public_of log) c a (ap (λ x. is_new (seen_in log x).public c) (sym t) ∙ changes_are_new (seen log s).public asker r c f)
added_apart log s line o (joined asker r b x w i t h) a = a
added_apart log s line o (wrote asker r b w i t h d) a = a
added_apart log s line o (done x t j) a = a

next_apart : (read : Reader) (st : State) (x : Step) → AreApart (public_of st.log).tags → AreApart (public_of (next read st x).log).tags
next_apart read st opens a = a
next_apart read st (asks n line) a = by (session_of st n).is_open where
  by : (b : Bool) → AreApart (public_of (cond b (with_outcome st n (ask read st.log (session_of st n) line)) st).log).tags
  by false = a
  by true =
      let o = ask read st.log (session_of st n) line in
      subst (λ (p : Public). AreApart p.tags) (sym (public_from-append first_public st.log (option_to_list o.added)))
      (added_apart st.log (session_of st n) (read line) o (shape read st.log (session_of st n) line) a)
next_apart read st (refused n) a = a
next_apart read st long a = a
next_apart read st stray a = a
next_apart read st (leaves n) a = by (session_of st n).is_open where
  by : (b : Bool) → AreApart (public_of (cond b (with_session st n (Rattle.ifdb_model.specs.Session.closed (session_of st n))) st).log).tags
  by false = a
  by true = a

run_apart : (read : Reader) (st : State) (steps : List Step) → AreApart (public_of st.log).tags → AreApart (public_of (run read st steps).log).tags
run_apart read st [] a = a
run_apart read st (x ∷ steps) a = run_apart read (next read st x) steps (next_apart read st x a)

-- ---- names of labels

named_itself : (p : Public) → AreApart p.tags → (t : ℕ) → t < length p.tags → tag_at p (get_or (tag_names p) t []) ≡ t
named_itself p a t lt =
    let name = (get_or p.tags t no_tag).name in
    let q : KnownTag → Bool = λ x. bytes_eq x.name name in
    let at : position_or_len q p.tags ≡ t = position_or_len_is q p.tags t no_tag (omega (arith, lt)) (λ k l. a.apart k t l lt) (λ _. bytes_itself name) in
    ap (tag_at p) (get_or-map (λ (x : KnownTag). x.name) p.tags t no_tag [] lt)
    ∙ (λ i. place_or (cond (ltb (at i) (length p.tags)) (Some (at i)) None))
    ∙ ap (λ b. place_or (cond b (Some t) None)) (lt-ltb t (length p.tags) lt)

names_back : (p : Public) → AreApart p.tags → (label : List ℕ) → are_made (length (tags_of p)) label ≡ true → tags_named p (names_of p label) ≡ label
names_back p a [] h = refl
names_back p a (t ∷ label) h =
    let parts : (ltb t (length (tags_of p)) ≡ true) × (are_made (length (tags_of p)) label ≡ true) = grind (arith, nat_tests) in
    let one = named_itself p a t (omega (arith, ltb-true t (length (tags_of p)) parts.0, length-map p.tags (λ (x : KnownTag). x.made))) in
    let rest = names_back p a label parts.1 in
    λ i. one i ∷ rest i

-- ---- HELLO

hello_adds : (log : List Entry) (s : Session) (r : Request) → is_hello r ≡ true → Greets (ask_by log s s.principal r) s
hello_adds log s (request.Hello name key) h = by s.principal where
  key_by : (p : Public) (n : ℕ) (b : Bool) → Greets (cond b (tells (welcomed p s n) reply.Done) (refuses s fault.BadKey)) s
  key_by p n true = record { adds = refl; txn = refl }
  key_by p n false = record { adds = refl; txn = refl }

  name_by : (o : Option ℕ) → Greets (greeted (public_of log) s key o) s
  name_by None = record { adds = refl; txn = refl }
  name_by (Some n) = key_by (public_of log) n (is_key (public_of log) n key)

  by : (o : Option ℕ) → Greets (ask_by log s o (request.Hello name key)) s
  by None = name_by (principal_named (public_of log) name)
  by (Some asker) = record { adds = refl; txn = refl }
hello_adds log s r h = absurd (false≢true h)

hello_read : (log : List Entry) (s : Session) (o : Result Request Fault) → ((r : Request) → o ≡ Ok r → is_hello r ≡ true) → Greets (ask_read log s o) s
hello_read log s (Err f) h = record { adds = refl; txn = refl }
hello_read log s (Ok r) h = hello_adds log s r (h r refl)

-- ---- SET LABEL

record GivesLabel (tags : List MadeTag) (o : Outcome) (label : List ℕ) : Type 0 where
  adds : o.added ≡ None
  gives : is_refusal o.reply ≡ false → (level : List ℕ) → flows tags o.session.label level ≡ flows tags label level

refused_gives : (tags : List MadeTag) (s : Session) (f : Fault) (label : List ℕ) → GivesLabel tags (refuses s f) label
refused_gives tags s f label = record { adds = refl; gives = λ h. absurd (false≢true (sym h)) }

found_gives : (tags : List MadeTag) (p : Public) (asker : ℕ) (s : Session) (names : List (List ℕ)) (label : List ℕ)
    → ((level : List ℕ) → flows tags (label_named p names) level ≡ flows tags label level)
    → GivesLabel tags (set_label p asker s (bound_request p asker (request.SetLabel names))) label
unfolding bound_request judged
found_gives tags p asker s names label same = by (not (are_tags p names)) where
  held : (refusal : Option Fault) → GivesLabel tags (relabelled_as s (label_named p names) refusal) label
  held None = record { adds = refl; gives = λ h. same }
  held (Some f) = refused_gives tags s f label

  by : (b : Bool) → GivesLabel tags (set_label p asker s (cond b (Err fault.UnknownName) (Ok (bound.SetLabel (label_named p names))))) label
  by true = refused_gives tags s fault.UnknownName label
  by false = held (label_refusal p asker s (label_named p names))

asker_gives : (log : List Entry) (s : Session) (names : List (List ℕ)) (label : List ℕ) → s.txn ≡ None
    → ((level : List ℕ) → flows (all_tags log) (label_named (public_of log) names) level ≡ flows (all_tags log) label level)
    → (o : Option ℕ) → GivesLabel (all_tags log) (ask_by log s o (request.SetLabel names)) label
asker_gives log s names label t same None = refused_gives (all_tags log) s fault.NotHello label
asker_gives log s names label t same (Some asker) =
    found_gives (all_tags log) (seen log s).public asker s names label (λ level. ap (λ x. flows (all_tags log) (label_named (seen_in log x).public names) level) t ∙ same level)

read_gives : (log : List Entry) (s : Session) (names : List (List ℕ)) (label : List ℕ) → s.txn ≡ None
    → ((level : List ℕ) → flows (all_tags log) (label_named (public_of log) names) level ≡ flows (all_tags log) label level)
    → (o : Result Request Fault) → ((r : Request) → o ≡ Ok r → r ≡ request.SetLabel names) → GivesLabel (all_tags log) (ask_read log s o) label
read_gives log s names label t same (Err f) h = refused_gives (all_tags log) s f label
read_gives log s names label t same (Ok r) h =
    subst (λ q. GivesLabel (all_tags log) (ask_by log s s.principal q) label) (sym (h r refl)) (asker_gives log s names label t same s.principal)

pub speaks_back : SpeaksBack
speaks_back read b = record {
  greets = λ log s g heard. hello_read log s (read (hello_line g)) (b.hello g heard);
  relabels = λ steps s label t m.
      let log = (run read opening steps).log in
      let none : AreApart (public_of opening.log).tags = record { apart = λ i j lt within. absurd (omega (arith, within)) } in
      let back = names_back (public_of log) (run_apart read opening steps none) label m in
      let formed = (run_sound read opening steps opening_sound).sound_log.formed in
      let names = names_of (public_of log) label in
      let g = read_gives log s names label t
      (λ level. reduce_flows (all_tags log) formed (tags_named (public_of log) names) level ∙ ap (λ tags. flows (all_tags log) tags level) back)
      (read (label_line log label)) (b.label steps label m) in
      record { adds = g.adds; gives = g.gives };
}
