-- A session whose ceiling flows to a level is inside it at each of its steps.
use Rattle.std.proofs.Common.{◌≡◌, ℕ, zero, suc, ◌-◌, ◌<◌, ◌≤◌, Bool, true, false, List, [], ◌∷◌, ◌++◌, length, get_or, set, refl, sym, ap, subst, ◌∙◌, arith, cond, ◌&&◌, ltb, eqb, Some, None, Ok, Err, Option, Result, inl, inr}
use Rattle.std.specs.Prelude.{All, option_to_list, filter, slice_index_or}
use Rattle.std.specs.List.{list_all}
use Rattle.std.proofs.lemmas.Bool.{false≢true, cases_lt, cases_eq}
use Rattle.std.proofs.lemmas.Bool.Decides.{nat_tests}
use Rattle.std.proofs.lemmas.List.{get_or_past, get_or_append_left, get_or-set_same, get_or-set_other, append_assoc, append-nil, length-map, length-append}
use Rattle.std.proofs.lemmas.List.Folds.{list_all-append}
use Rattle.std.proofs.lemmas.List.Elements.{All-nil, All-get_or, All-set, All-push, All-weaker, filter-append}
use Rattle.ifdb_label.specs.Tags.{MadeTag, are_made, AreWellFormed}
use Rattle.ifdb_label.specs.Label.{flows}
use Rattle.ifdb_label.proofs.LabelLaws.{flows-append, flows_trans}
use Rattle.ifdb_bound.specs.declared.request.Bound.TheVariants as bound
use Rattle.ifdb_bound.specs.declared.request.Change.{Change}
use Rattle.ifdb_bound.specs.declared.request.Change.TheVariants as change
use Rattle.ifdb_syntax.specs.declared.request.Request.{Request}
use Rattle.ifdb_wire.specs.declared.fault.Fault.{Fault}
use Rattle.ifdb_catalog.specs.Public.{Public, KnownPrincipal, KnownTag, tags_of, no_principal, clearance_of, changed}
use Rattle.ifdb_catalog.specs.Binding.{bound as bound_request}
use Rattle.ifdb_catalog.specs.Fits.{clearance_fits, bound_fits}
use Rattle.ifdb_catalog.proofs.BoundRequestsFit.{bound_is_fitting}
use Rattle.ifdb_catalog.proofs.Made as made_by_binding
use Rattle.ifdb_model.specs.Log.{Entry, changes, commits, public_from, public_of, all_tags}
use Rattle.ifdb_model.specs.Session.{Txn, Session, new_session, no_session, closed, seen_in, seen}
use Rattle.ifdb_model.specs.Step.{Reader, Outcome, is_under, label_refusal, ask}
use Rattle.ifdb_model.specs.Run.{State, opening, session_of, Step, opens, asks, refused, long, stray, leaves, with_outcome, with_session, next, Told, told, run, replies}
use Rattle.ifdb_model.specs.Low.{is_inside, asked, heard}
use Rattle.ifdb_model.proofs.LogLaws.{public_from-append}
use Rattle.ifdb_model.proofs.Runs.{run-append}
use Rattle.ifdb_laws.specs.Ceilings.{HasCeilingBelow, CeilingsAreClearances, CeilingsKeepInside, told_to, CeilingsAreHeard}
use Rattle.ifdb_laws.proofs.Shapes.{Shape, stayed, greeted_as, relabelled_to, begun, ended, published, joined, wrote, done, shape}
use Rattle.ifdb_laws.proofs.Logs.{new_tags, tags_append, tags_grow, seen_widens, widens_from}
use Rattle.ifdb_laws.proofs.Statements.{Widens}
use Rattle.ifdb_laws.proofs.rows.Runs.{session_has}
use Rattle.ifdb_laws.proofs.two_worlds.Outcomes.{tag_count, more_made, added_by, log_after, seen_tags}
use Rattle.ifdb_laws.proofs.two_worlds.Sound.{Sound, SoundLog, more_tags, session_sound, asked_sound, left_sound, next_sound, opening_sound, run_sound}

-- ---- what holds in each state

-- a ceiling over so many tags, if there is one
abbrev is_made_ceiling : ℕ → Option (List ℕ) → Bool
is_made_ceiling n None = true
is_made_ceiling n (Some c) = are_made n c

abbrev are_made_clearances : ℕ → List KnownPrincipal → Bool
are_made_clearances n ps = list_all (λ (k : KnownPrincipal). is_made_ceiling n k.clearance) ps

-- a session's ceiling is its principal's clearance
abbrev IsCleared : List Entry → Session → Type 0
IsCleared log s = (a : ℕ) → s.principal ≡ Some a → (a < length (public_of log).principals) × (s.ceiling ≡ clearance_of (public_of log) a)

-- a session's label flows to its ceiling, both are of made tags, the ceiling is that of its principal, and before HELLO the label is empty
record Under (log : List Entry) (s : Session) : Type 0 where
  ceiling_made : is_made_ceiling (tag_count log) s.ceiling ≡ true
  under : is_under (all_tags log) s.ceiling s.label ≡ true
  fresh : s.principal ≡ None → s.label ≡ []
  cleared : IsCleared log s

record Below (st : State) : Type 0 where
  sound : Sound st
  clear : are_made_clearances (tag_count st.log) (public_of st.log).principals ≡ true
  sessions : All (Under st.log) st.sessions

more_ceiling : (n m : ℕ) → n ≤ m → (o : Option (List ℕ)) → is_made_ceiling n o ≡ true → is_made_ceiling m o ≡ true
more_ceiling n m le None h = refl
more_ceiling n m le (Some c) h = more_made n m c le h

more_clear : (n m : ℕ) → n ≤ m → (ps : List KnownPrincipal) → are_made_clearances n ps ≡ true → are_made_clearances m ps ≡ true
more_clear n m le [] h = refl
more_clear n m le (k ∷ ps) h =
    let parts : (is_made_ceiling n k.clearance ≡ true) × (are_made_clearances n ps ≡ true) = grind (arith, nat_tests) in
    let one = more_ceiling n m le k.clearance parts.0 in
    let rest = more_clear n m le ps parts.1 in
    grind (arith, nat_tests)

-- more tags widen what flows
wider_under : (older tags : List MadeTag) → Widens older tags → (o : Option (List ℕ)) (label : List ℕ) → is_under older o label ≡ true → is_under tags o label ≡ true
wider_under older tags w None label h = refl
wider_under older tags w (Some c) label h = w.mono label c h

-- principals are only added
one_more : (p : Public) (c : Change) → (more : List KnownPrincipal) × ((changed p c).principals ≡ p.principals ++ more)
one_more p (change.Principal maker name key clearance) = (record { name = name; key = key; clearance = clearance } ∷ [], refl)
one_more p (change.Tag maker name kind parents) = ([], sym (append-nil p.principals))
one_more p (change.Table maker schema) = ([], sym (append-nil p.principals))
one_more p (change.View view) = ([], sym (append-nil p.principals))
one_more p (change.Grant maker tag to) = ([], sym (append-nil p.principals))
one_more p (change.Revoke maker tag from) = ([], sym (append-nil p.principals))

more_principals : (p : Public) (log : List Entry) → (more : List KnownPrincipal) × ((public_from p log).principals ≡ p.principals ++ more)
more_principals p [] = ([], sym (append-nil p.principals))
more_principals p (changes c ∷ log) =
    let one = one_more p c in
    let rest = more_principals (changed p c) log in
    (one.0 ++ rest.0, rest.1 ∙ ap (λ ps. ps ++ rest.0) one.1 ∙ append_assoc p.principals one.0 rest.0)
more_principals p (commits ws ∷ log) = more_principals p log

-- so the clearance of one stays
later_cleared : (log more : List Entry) (s : Session) → IsCleared log s → IsCleared (log ++ more) s
later_cleared log more s k a e =
    let p = public_of log in
    let grown = more_principals p more in
    let all : (public_of (log ++ more)).principals ≡ p.principals ++ grown.0 = ap (λ (q : Public). q.principals) (public_from-append (public_of []) log more) ∙ grown.1 in
    let there = (k a e).0 in
    let longer = ap length all ∙ length-append p.principals grown.0 in
    let same : clearance_of (public_of (log ++ more)) a ≡ clearance_of p a =
    ap (λ ps. (slice_index_or ps a no_principal).clearance) all ∙ ap (λ (x : KnownPrincipal). x.clearance) (get_or_append_left p.principals grown.0 no_principal a there) in
    (omega (arith, there, longer), (k a e).1 ∙ sym same)

-- a session beside a longer log
later_under : (log more : List Entry) → AreWellFormed (all_tags (log ++ more)) → (s : Session) → Under log s → Under (log ++ more) s
later_under log more w s k = record {
  ceiling_made = more_ceiling (tag_count log) (tag_count (log ++ more)) (more_tags log more) s.ceiling k.ceiling_made;
  under = wider_under (all_tags log) (all_tags (log ++ more)) (widens_from (all_tags log) (new_tags more) (all_tags (log ++ more)) (tags_append log more) w) s.ceiling s.label k.under;
  fresh = k.fresh;
  cleared = later_cleared log more s k.cleared;
}

-- ---- a line

empty_under : (tags : List MadeTag) (o : Option (List ℕ)) → is_under tags o [] ≡ true
empty_under tags None = refl
empty_under tags (Some c) = refl

clearance_made : (n i : ℕ) (ps : List KnownPrincipal) → are_made_clearances n ps ≡ true → is_made_ceiling n (slice_index_or ps i no_principal).clearance ≡ true
clearance_made n i [] h = refl
clearance_made n zero (k ∷ ps) h = grind (arith, nat_tests)
clearance_made n (suc i) (k ∷ ps) h = clearance_made n i ps (grind (arith, nat_tests))

refused_none : (under holds : Bool) (f g : Fault) → ◌≡◌ {A = Option Fault} (cond under (cond holds None (Some f)) (Some g)) None → under ≡ true
refused_none true holds f g e = refl
refused_none false holds f g e = cc

some_not_none : {A : Type 0} {a : ℕ} {o : Option ℕ} → o ≡ Some a → o ≡ None → A
some_not_none e f = let no : Some _ ≡ None = sym e ∙ f in absurd (cc)

same_length : (p : Public) → length (tags_of p) ≡ length p.tags
same_length p = length-map p.tags (λ (t : KnownTag). t.made)

more_tags_one : (p : Public) (maker : ℕ) (name : List ℕ) (kind : _) (parents : List ℕ) → length (tags_of p) ≤ length (tags_of (changed p (change.Tag maker name kind parents)))
more_tags_one p maker name kind parents = rw (tags_grow p (changes (change.Tag maker name kind parents) ∷ [])) (simp length-append (omega arith))

module _ (log : List Entry) (s : Session) (line : Result Request Fault) (l : SoundLog log)
    (clear : are_made_clearances (tag_count log) (public_of log).principals ≡ true) (k : Under log s) where
  outcome_under : (o : Outcome) → Shape log s line o → Under log o.session
  outcome_under o (stayed r) = k
  outcome_under o (greeted_as n g lt) =
      let none = k.fresh g in
      record {
        ceiling_made = clearance_made (tag_count log) n (public_of log).principals clear;
        under = ap (is_under (all_tags log) (clearance_of (public_of log) n)) none ∙ empty_under (all_tags log) (clearance_of (public_of log) n);
        fresh = λ e. none;
        cleared = λ a e. let same : n ≡ a = cc in subst (λ m. (m < length (public_of log).principals) × (clearance_of (public_of log) n ≡ clearance_of (public_of log) m)) same (lt, refl);
      }
  outcome_under o (relabelled_to asker r label p e h) = record {
    ceiling_made = k.ceiling_made;
    under = wider_under (tags_of (seen log s).public) (all_tags log) (seen_widens log s.txn l.formed) s.ceiling label (refused_none (is_under (tags_of (seen log s).public) s.ceiling label) _ _ _ h);
    fresh = λ f. some_not_none p f;
    cleared = k.cleared;
  }
  outcome_under o (begun t) = record { ceiling_made = k.ceiling_made; under = k.under; fresh = k.fresh; cleared = k.cleared }
  outcome_under o (ended b r why) = record { ceiling_made = k.ceiling_made; under = k.under; fresh = k.fresh; cleared = k.cleared }
  outcome_under o (published asker r c line_is t i p q) = k
  outcome_under o (joined asker r b x w i t h) = record { ceiling_made = k.ceiling_made; under = k.under; fresh = k.fresh; cleared = k.cleared }
  outcome_under o (wrote asker r b w i t h d) = k
  outcome_under o (done x t j) = record { ceiling_made = k.ceiling_made; under = k.under; fresh = k.fresh; cleared = k.cleared }

  -- a principal and its ceiling stay
  outcome_keeps : (a : ℕ) (c : Option (List ℕ)) → s.principal ≡ Some a → s.ceiling ≡ c → (o : Outcome) → Shape log s line o → (o.session.principal ≡ Some a) × (o.session.ceiling ≡ c)
  outcome_keeps a c p q o (stayed r) = (p, q)
  outcome_keeps a c p q o (greeted_as n g lt) = some_not_none p g
  outcome_keeps a c p q o (relabelled_to asker r label v e h) = (p, q)
  outcome_keeps a c p q o (begun t) = (p, q)
  outcome_keeps a c p q o (ended b r why) = (p, q)
  outcome_keeps a c p q o (published asker r x line_is t i v w) = (p, q)
  outcome_keeps a c p q o (joined asker r b x w i t h) = (p, q)
  outcome_keeps a c p q o (wrote asker r b w i t h d) = (p, q)
  outcome_keeps a c p q o (done x t j) = (p, q)

  -- a clearance that is entered is of made tags
  fitting_made : (p : Public) (c : Option (List ℕ)) → clearance_fits p c ≡ true → is_made_ceiling (length p.tags) c ≡ true
  fitting_made p None h = refl
  fitting_made p (Some label) h = grind (arith, nat_tests)

  added_clear : (o : Outcome) → Shape log s line o → are_made_clearances (length (tags_of (public_from (public_of log) (option_to_list o.added)))) (public_from (public_of log) (option_to_list o.added)).principals ≡ true
  added_clear o (stayed r) = clear
  added_clear o (greeted_as n g lt) = clear
  added_clear o (relabelled_to asker r label v e h) = clear
  added_clear o (begun t) = clear
  added_clear o (ended b r why) = clear
  added_clear o (joined asker r b x w i t h) = clear
  added_clear o (wrote asker r b w i t h d) = clear
  added_clear o (done x t j) = clear
  added_clear o (published asker r c line_is t i e q) = by c (bound_is_fitting (seen log s).public asker r (bound.Change c) e) where
    by : (c : Change) → bound_fits (seen log s).public (bound.Change c) ≡ true → are_made_clearances (length (tags_of (changed (public_of log) c))) (changed (public_of log) c).principals ≡ true
    by (change.Principal maker name key clearance) f =
        let here : clearance_fits (public_of log) clearance ≡ true = ap (λ x. clearance_fits (seen_in log x).public clearance) (sym t) ∙ f in
        let one : is_made_ceiling (tag_count log) clearance ≡ true = ap (λ n. is_made_ceiling n clearance) (same_length (public_of log)) ∙ fitting_made (public_of log) clearance here in
        list_all-append (λ (k : KnownPrincipal). is_made_ceiling (tag_count log) k.clearance) (public_of log).principals _ ∙ (rw (clear, one) refl)
    by (change.Tag maker name kind parents) f = more_clear (tag_count log) (length (tags_of (changed (public_of log) (change.Tag maker name kind parents)))) (more_tags_one (public_of log) maker name kind parents) (public_of log).principals clear
    by (change.Table maker schema) f = clear
    by (change.View view) f = clear
    by (change.Grant maker tag to) f = clear
    by (change.Revoke maker tag from) f = clear

-- ---- steps

no_session_under : (log : List Entry) → Under log no_session
no_session_under log = record { ceiling_made = refl; under = refl; fresh = λ e. refl; cleared = λ a e. some_not_none e refl }

under_at : (st : State) → Below st → (n : ℕ) → Under st.log (session_of st n)
under_at st v n = session_has (Under st.log) st v.sessions (no_session_under st.log) n

asked_below : (read : Reader) (st : State) → Below st → (n : ℕ) (line : List ℕ) → Below (with_outcome st n (ask read st.log (session_of st n) line))
asked_below read st v n line =
    let s = session_of st n in
    let o = ask read st.log s line in
    let k = under_at st v n in
    let l = v.sound.sound_log in
    let later = log_after read st.log s line in
    record {
      sound = asked_sound read st v.sound n line;
      clear = ap (λ (p : Public). are_made_clearances (length (tags_of p)) p.principals) (public_from-append (public_of []) st.log (option_to_list o.added))
          ∙ added_clear st.log s (read line) l v.clear k o (shape read st.log s line);
      sessions = All-set (Under later) st.sessions (n - 1) o.session
          (later_under st.log (added_by read st.log s line) (asked_sound read st v.sound n line).sound_log.formed o.session (outcome_under st.log s (read line) l v.clear k o (shape read st.log s line)))
          (All-weaker (Under st.log) (Under later) (later_under st.log (added_by read st.log s line) (asked_sound read st v.sound n line).sound_log.formed) st.sessions v.sessions);
    }

left_below : (st : State) → Below st → (n : ℕ) → Below (with_session st n (closed (session_of st n)))
left_below st v n =
    let k = under_at st v n in
    record {
      sound = left_sound st v.sound n;
      clear = v.clear;
      sessions = All-set (Under st.log) st.sessions (n - 1) (closed (session_of st n)) (record { ceiling_made = k.ceiling_made; under = k.under; fresh = k.fresh; cleared = k.cleared }) v.sessions;
    }

either : (b : Bool) (s t : State) → Below s → Below t → Below (cond b s t)
either true s t h k = h
either false s t h k = k

next_below : (read : Reader) (st : State) (x : Step) → Below st → Below (next read st x)
next_below read st opens v = record {
  sound = next_sound read st opens v.sound;
  clear = v.clear;
  sessions = All-push (Under st.log) st.sessions new_session v.sessions (record { ceiling_made = refl; under = refl; fresh = λ e. refl; cleared = λ a e. some_not_none e refl });
}
next_below read st (asks n line) v = either (session_of st n).is_open (with_outcome st n (ask read st.log (session_of st n) line)) st (asked_below read st v n line) v
next_below read st (refused n) v = v
next_below read st long v = v
next_below read st stray v = v
next_below read st (leaves n) v = either (session_of st n).is_open (with_session st n (closed (session_of st n))) st (left_below st v n) v

opening_below : Below opening
opening_below = record { sound = opening_sound; clear = refl; sessions = All-nil (Under []) }

run_below : (read : Reader) (st : State) (steps : List Step) → Below st → Below (run read st steps)
run_below read st [] v = v
run_below read st (x ∷ steps) v = run_below read (next read st x) steps (next_below read st x v)

-- ---- who said HELLO keeps principal and ceiling

abbrev Has : ℕ → Option (List ℕ) → Session → Type 0
Has a c s = (s.principal ≡ Some a) × (s.ceiling ≡ c)

never : (st : State) (n : ℕ) → ltb 0 n ≡ false → session_of st n ≡ no_session
never st n e = rw e refl

open_number : (st : State) (n : ℕ) → (session_of st n).is_open ≡ true → ltb 0 n ≡ true
open_number st n h = by (ltb 0 n) refl where
  by : (b : Bool) → ltb 0 n ≡ b → ltb 0 n ≡ true
  by true e = e
  by false e = absurd (false≢true (sym (ap (λ (s : Session). s.is_open) (never st n e)) ∙ h))

at_number : (st : State) (n : ℕ) → ltb 0 n ≡ true → session_of st n ≡ get_or st.sessions (n - 1) no_session
at_number st n e = rw e refl

numbered : (st : State) (n a : ℕ) → (session_of st n).principal ≡ Some a → ltb 0 n ≡ true
numbered st n a h = by (ltb 0 n) refl where
  by : (b : Bool) → ltb 0 n ≡ b → ltb 0 n ≡ true
  by true e = e
  by false e = let no : None ≡ Some a = sym (ap (λ (s : Session). s.principal) (never st n e)) ∙ h in absurd (cc)

set_keeps : (P : Session → Type 0) (xs : List Session) (i j : ℕ) (s : Session) → i < length xs → (i ≡ j → P s) → P (get_or xs i no_session) → P (get_or (set xs j s) i no_session)
set_keeps P xs i j s lt h k = elim (cases_eq i j) [
  | inl e ↦ subst P (sym (ap (λ x. get_or (set xs x s) i no_session) (sym e) ∙ get_or-set_same xs i s no_session lt)) (h e)
  | inr d ↦ subst P (sym (get_or-set_other xs j i s no_session d)) k
]

module _ (a : ℕ) (c : Option (List ℕ)) where
  in_place : (st : State) (n : ℕ) → Has a c (session_of st n) → Has a c (get_or st.sessions (n - 1) no_session)
  in_place st n h = subst (Has a c) (at_number st n (numbered st n a h.0)) h

  in_range : (st : State) (n : ℕ) → Has a c (session_of st n) → n - 1 < length st.sessions
  in_range st n h = elim (cases_lt (n - 1) (length st.sessions)) [
    | inl lt ↦ lt
    | inr le ↦ let no : None ≡ Some a = sym (ap (λ (s : Session). s.principal) (get_or_past st.sessions (n - 1) no_session le)) ∙ (in_place st n h).0 in absurd (cc)
  ]

  set_has : (st : State) (log : List Entry) (m n : ℕ) (s : Session) → (session_of st m).is_open ≡ true → Has a c (session_of st n)
      → (Has a c (session_of st m) → Has a c s) → Has a c (session_of (record { log = log; sessions = set st.sessions (m - 1) s }) n)
  set_has st log m n s o h k =
      let here : n - 1 ≡ m - 1 → Has a c s = λ e.
      k (subst (Has a c) (sym (at_number st m (open_number st m o) ∙ ap (λ i. get_or st.sessions i no_session) (sym e))) (in_place st n h)) in
      subst (Has a c) (sym (at_number (record { log = log; sessions = set st.sessions (m - 1) s }) n (numbered st n a h.0)))
      (set_keeps (Has a c) st.sessions (n - 1) (m - 1) s (in_range st n h) here (in_place st n h))

  next_has : (read : Reader) (st : State) (x : Step) (n : ℕ) → Below st → Has a c (session_of st n) → Has a c (session_of (next read st x) n)
  next_has read st opens n v h =
      let opened : State = record st { sessions = st.sessions ++ new_session ∷ [] } in
      subst (Has a c) (sym (at_number opened n (numbered st n a h.0) ∙ get_or_append_left st.sessions (new_session ∷ []) no_session (n - 1) (in_range st n h))) (in_place st n h)
  next_has read st (asks m line) n v h = by (session_of st m).is_open refl where
    by : (b : Bool) → (session_of st m).is_open ≡ b → Has a c (session_of (cond b (with_outcome st m (ask read st.log (session_of st m) line)) st) n)
    by true e =
        let s = session_of st m in
        let out = ask read st.log s line in
        set_has st (st.log ++ option_to_list out.added) m n out.session e h
        (λ k. outcome_keeps st.log s (read line) v.sound.sound_log v.clear (under_at st v m) a c k.0 k.1 out (shape read st.log s line))
    by false e = h
  next_has read st (refused m) n v h = h
  next_has read st long n v h = h
  next_has read st stray n v h = h
  next_has read st (leaves m) n v h = by (session_of st m).is_open refl where
    by : (b : Bool) → (session_of st m).is_open ≡ b → Has a c (session_of (cond b (with_session st m (closed (session_of st m))) st) n)
    by true e = set_has st st.log m n (closed (session_of st m)) e h (λ k. k)
    by false e = h

  run_has : (read : Reader) (st : State) (steps : List Step) (n : ℕ) → Below st → Has a c (session_of st n) → Has a c (session_of (run read st steps) n)
  run_has read st [] n v h = h
  run_has read st (x ∷ steps) n v h = run_has read (next read st x) steps n (next_below read st x v) (next_has read st x n v h)

-- ---- tags grow along a run

grows : (read : Reader) (st : State) (steps : List Step) → (more : List MadeTag) × (all_tags (run read st steps).log ≡ all_tags st.log ++ more)
grows read st [] = ([], sym (append-nil (all_tags st.log)))
grows read st (x ∷ steps) =
    let one = step_grows x in
    let rest = grows read (next read st x) steps in
    (one.0 ++ rest.0, rest.1 ∙ ap (λ tags. tags ++ rest.0) one.1 ∙ append_assoc (all_tags st.log) one.0 rest.0) where
      none : (more : List MadeTag) × (all_tags st.log ≡ all_tags st.log ++ more)
      none = ([], sym (append-nil (all_tags st.log)))

      step_grows : (x : Step) → (more : List MadeTag) × (all_tags (next read st x).log ≡ all_tags st.log ++ more)
      step_grows opens = none
      step_grows (asks n line) = by (session_of st n).is_open where
        by : (b : Bool) → (more : List MadeTag) × (all_tags (cond b (with_outcome st n (ask read st.log (session_of st n) line)) st).log ≡ all_tags st.log ++ more)
        by true = (new_tags (option_to_list (ask read st.log (session_of st n) line).added), tags_append st.log (option_to_list (ask read st.log (session_of st n) line).added))
        by false = none
      step_grows (refused n) = none
      step_grows long = none
      step_grows stray = none
      step_grows (leaves n) = by (session_of st n).is_open where
        by : (b : Bool) → (more : List MadeTag) × (all_tags (cond b (with_session st n (closed (session_of st n))) st).log ≡ all_tags st.log ++ more)
        by true = none
        by false = none

-- ---- the law

same_some : (x y : List ℕ) → ◌≡◌ {A = Option (List ℕ)} (Some x) (Some y) → x ≡ y
same_some x y e = cc

ceilings_keep_inside : (read : Reader) (level : List ℕ) (steps more : List Step) (n : ℕ) → HasCeilingBelow read level (steps ++ more) n → is_inside level (run read opening steps) n ≡ true
ceilings_keep_inside read level steps more n h = by (session_of st n).principal refl where
  st : State
  st = run read opening steps

  v : Below st
  v = run_below read opening steps opening_below

  last : State
  last = run read st more

  same : run read opening (steps ++ more) ≡ last
  same = run-append read opening steps more

  w : Below last
  w = run_below read st more v

  by : (o : Option ℕ) → (session_of st n).principal ≡ o → is_inside level st n ≡ true
  by None e = ap (λ label. flows (all_tags st.log) label level) ((under_at st v n).fresh e)
  by (Some a) e =
      let kept = run_has a (session_of st n).ceiling read st more n v (e, refl) in
      let is : (session_of st n).ceiling ≡ Some h.ceiling = sym kept.1 ∙ ap (λ (x : State). (session_of x n).ceiling) (sym same) ∙ h.had in
      let under : flows (all_tags st.log) (session_of st n).label h.ceiling ≡ true = sym (ap (λ o. is_under (all_tags st.log) o (session_of st n).label) is) ∙ (under_at st v n).under in
      let grown = grows read st more in
      let wide = widens_from (all_tags st.log) grown.0 (all_tags last.log) grown.1 w.sound.sound_log.formed in
      let then_under = wide.mono (session_of st n).label h.ceiling under in
      let level_below : flows (all_tags last.log) h.ceiling level ≡ true = sym (ap (λ (x : State). flows (all_tags x.log) h.ceiling level) same) ∙ h.below in
      let at_end : flows (all_tags last.log) (session_of st n).label level ≡ true = wide.trans (session_of st n).label h.ceiling level then_under level_below in
      sym (ap (λ tags. flows tags (session_of st n).label level) grown.1 ∙ flows-append (all_tags st.log) grown.0 v.sound.sound_log.formed (session_of st n).label level (session_sound st v.sound n).label_made) ∙ at_end

pub are_clearances : CeilingsAreClearances
are_clearances read steps n a e = ((under_at (run read opening steps) (run_below read opening steps opening_below) n).cleared a e).1

pub keep_inside : CeilingsKeepInside
keep_inside = ceilings_keep_inside

-- ---- what it is told

other_number : (m n : ℕ) (r : Rattle.ifdb_wire.specs.declared.reply.Reply.Reply) → eqb m n ≡ false → told_to n (record { number = m; reply = r } ∷ []) ≡ []
other_number m n r e = rw e refl

module _ (read : Reader) (level : List ℕ) (before steps : List Step) (x : Step) (n : ℕ) (h : HasCeilingBelow read level (before ++ x ∷ steps) n) where
  inside : is_inside level (run read opening before) n ≡ true
  inside = ceilings_keep_inside read level before (x ∷ steps) n h

  apart : (m : ℕ) → is_inside level (run read opening before) m ≡ false → eqb m n ≡ false
  apart m o = by (eqb m n) refl where
    by : (b : Bool) → eqb m n ≡ b → eqb m n ≡ false
    by false e = e
    by true e = let same : m ≡ n = grind (arith, nat_tests) in absurd (false≢true (sym o ∙ ap (is_inside level (run read opening before)) same ∙ inside))

  silent : (y : Step) → asked level (run read opening before) y ≡ false → [] ≡ told_to n (told read (run read opening before) y)
  silent opens o = cc
  silent (asks m line) o = sym (other_number m n _ (apart m o))
  silent (refused m) o = sym (other_number m n _ (apart m o))
  silent long o = cc
  silent stray o = cc
  silent (leaves m) o = refl

  one_told : (b : Bool) → asked level (run read opening before) x ≡ b → told_to n (cond b (told read (run read opening before) x) []) ≡ told_to n (told read (run read opening before) x)
  one_told true e = refl
  one_told false e = silent x e

-- by what stands before
heard_from : (read : Reader) (level : List ℕ) (before steps : List Step) (n : ℕ) → HasCeilingBelow read level (before ++ steps) n
    → told_to n (heard read level (run read opening before) steps) ≡ told_to n (replies read (run read opening before) steps)
heard_from read level before [] n h = refl
heard_from read level before (x ∷ steps) n h =
    let all : before ++ x ∷ steps ≡ (before ++ x ∷ []) ++ steps = sym (append_assoc before (x ∷ []) steps) in
    let rest : told_to n (heard read level (next read (run read opening before) x) steps) ≡ told_to n (replies read (next read (run read opening before) x) steps) =
    subst (λ (u : State). told_to n (heard read level u steps) ≡ told_to n (replies read u steps)) (run-append read opening before (x ∷ []))
    (heard_from read level (before ++ x ∷ []) steps n (subst (λ l. HasCeilingBelow read level l n) all h)) in
    let one = one_told read level before steps x n h (asked level (run read opening before) x) refl in
    filter-append (λ (t : Told). eqb t.number n) (cond (asked level (run read opening before) x) (told read (run read opening before) x) []) (heard read level (next read (run read opening before) x) steps)
    ∙ (λ i. one i ++ rest i)
    ∙ sym (filter-append (λ (t : Told). eqb t.number n) (told read (run read opening before) x) (replies read (next read (run read opening before) x) steps))

pub are_heard : CeilingsAreHeard
are_heard read level steps n h = heard_from read level [] steps n h
