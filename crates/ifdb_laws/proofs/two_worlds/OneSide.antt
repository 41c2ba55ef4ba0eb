-- Runs without a crossing stay on one side: their states, and each of their sessions.
use Rattle.std.proofs.Common.{◌≡◌, ℕ, ◌-◌, ◌<◌, Bool, true, false, List, [], ◌∷◌, ◌++◌, length, get_or, set, refl, sym, ap, ◌∙◌, arith, cond, ltb, Some, None, Option, inl, inr}
use Rattle.std.proofs.lemmas.Bool.{false≢true, cases_eq, cases_lt, cases_Bool}
use Rattle.std.proofs.lemmas.Bool.Decides.{nat_tests}
use Rattle.std.proofs.lemmas.List.{get_or-set_other, get_or-set_same, get_or_append_left, get_or_past}
use Rattle.ifdb_label.specs.Label.{flows}
use Rattle.ifdb_label.proofs.LabelLaws.{flows-append}
use Rattle.ifdb_row.specs.declared.write.Write.{Write}
use Rattle.ifdb_row.specs.Sides.{is_sided}
use Rattle.ifdb_model.specs.Log.{Entry, all_tags}
use Rattle.ifdb_model.specs.Session.{Txn, Session, new_session, no_session, closed}
use Rattle.ifdb_model.specs.Step.{Reader, ask}
use Rattle.ifdb_model.specs.Run.{State, opening, session_of, Step, opens, asks, refused, long, stray, leaves, with_outcome, with_session, next, run}
use Rattle.ifdb_model.specs.Low.{is_inside}
use Rattle.ifdb_model.specs.Crossing.{crosses_at, crosses, quiet}
use Rattle.ifdb_laws.specs.OneSide.{own_of, side_of, IsOneSided, QuietRunsAreOneSided, InsideSinceTheStart}
use Rattle.ifdb_laws.proofs.Logs.{txn_all, content_all, new_tags, tags_append}
use Rattle.ifdb_laws.proofs.two_worlds.Outcomes.{is_in, added_by, log_after}
use Rattle.ifdb_laws.proofs.two_worlds.Sound.{Sound, session_sound, next_sound}
use Rattle.ifdb_laws.proofs.two_worlds.Facts.{Facts, session_sided, stays_outside, opening_facts, run_facts}
use Rattle.ifdb_laws.proofs.two_worlds.Parts.{outside_place}

-- ---- states

own_all : (q : List Write → Bool) (o : Option Txn) → q [] ≡ true → txn_all q o ≡ true → q (own_of o) ≡ true
own_all q None e h = e
own_all q (Some x) e h = h

one_sided : (level : List ℕ) (st : State) → Facts level st → IsOneSided level st
one_sided level st f = record {
  own_inside = λ n h. own_all (Rattle.ifdb_row.specs.Sides.are_on (side_of level st)) (session_of st n).txn refl ((session_sided level st f n).own_inside h);
  commits_together = f.sided_log.together;
  content_sided = content_all (is_sided (side_of level st)) [] st.log f.sided_log.sided refl;
  commits_sided = f.sided_log.sided;
  own_sided = λ n. own_all (Rattle.ifdb_row.specs.Sides.are_sided_writes (side_of level st)) (session_of st n).txn refl (session_sided level st f n).sided;
}

pub quiet_runs_are_one_sided : QuietRunsAreOneSided
quiet_runs_are_one_sided read level steps q = one_sided level (run read opening steps) (run_facts read level opening steps (opening_facts level) q)

-- ---- a session outside stays there

-- its place is that of its number
outside_number : (level : List ℕ) (st : State) (n : ℕ) → is_inside level st n ≡ false → ltb 0 n ≡ true
outside_number level st n h = by (ltb 0 n) refl where
  by : (b : Bool) → ltb 0 n ≡ b → ltb 0 n ≡ true
  by true e = e
  by false e = absurd (false≢true (sym h ∙ rw e refl))

at_number : (st : State) (n : ℕ) → ltb 0 n ≡ true → session_of st n ≡ get_or st.sessions (n - 1) no_session
at_number st n e = rw e refl

never_opened : (st : State) (n : ℕ) → ltb 0 n ≡ false → session_of st n ≡ no_session
never_opened st n e = rw e refl

open_number : (st : State) (n : ℕ) → (session_of st n).is_open ≡ true → ltb 0 n ≡ true
open_number st n h = by (ltb 0 n) refl where
  by : (b : Bool) → ltb 0 n ≡ b → ltb 0 n ≡ true
  by true e = e
  by false e = absurd (false≢true (sym (ap (λ (s : Session). s.is_open) (never_opened st n e)) ∙ h))

in_range : (level : List ℕ) (st : State) (n : ℕ) → is_inside level st n ≡ false → n - 1 < length st.sessions
in_range level st n h = elim (cases_lt (n - 1) (length st.sessions)) [
  | inl lt ↦ lt
  | inr le ↦ absurd (false≢true (sym h ∙ ap (is_in st.log level) (outside_place level st n h ∙ get_or_past st.sessions (n - 1) no_session le)))
]

-- a label beside a longer log
same_label : (level : List ℕ) (st : State) → Sound st → (n : ℕ) (more : List Entry)
    → is_in (st.log ++ more) level (session_of st n) ≡ is_in st.log level (session_of st n)
same_label level st v n more =
    ap (λ tags. flows tags (session_of st n).label level) (tags_append st.log more)
    ∙ flows-append (all_tags st.log) (new_tags more) v.sound_log.formed (session_of st n).label level (session_sound st v n).label_made

set_stays : (level : List ℕ) (log : List Entry) (xs : List Session) (i j : ℕ) (s : Session) → i < length xs → (i ≡ j → is_in log level s ≡ false)
    → is_in log level (get_or xs i no_session) ≡ false → is_in log level (get_or (set xs j s) i no_session) ≡ false
set_stays level log xs i j s lt h k = elim (cases_eq i j) [
  | inl e ↦ ap (is_in log level) (ap (λ x. get_or (set xs x s) i no_session) (sym e) ∙ get_or-set_same xs i s no_session lt) ∙ h e
  | inr d ↦ ap (is_in log level) (get_or-set_other xs j i s no_session d) ∙ k
]

-- session m's step, seen from session n
asked_stays : (read : Reader) (level : List ℕ) (st : State) → Sound st → (m : ℕ) (line : List ℕ) (n : ℕ) → (session_of st m).is_open ≡ true
    → crosses_at read level st.log (session_of st m) line ≡ false
    → is_inside level st n ≡ false → is_inside level (with_outcome st m (ask read st.log (session_of st m) line)) n ≡ false
asked_stays read level st v m line n o q h =
    let out = ask read st.log (session_of st m) line in
    let later = log_after read st.log (session_of st m) line in
    let there : is_in later level (get_or st.sessions (n - 1) no_session) ≡ false =
    ap (is_in later level) (sym (outside_place level st n h)) ∙ same_label level st v n (added_by read st.log (session_of st m) line) ∙ h in
    let here : n - 1 ≡ m - 1 → is_in later level out.session ≡ false = λ e.
    let same = outside_place level st n h ∙ ap (λ i. get_or st.sessions i no_session) e ∙ sym (at_number st m (open_number st m o)) in
    let before = ap (is_in st.log level) (sym same) ∙ h in
    stays_outside read level st.log (session_of st m) line v.sound_log (session_sound st v m) q before in
    ap (is_in later level) (at_number (with_outcome st m out) n (outside_number level st n h))
    ∙ set_stays level later st.sessions (n - 1) (m - 1) out.session (in_range level st n h) here there

left_stays : (level : List ℕ) (st : State) (m n : ℕ) → (session_of st m).is_open ≡ true → is_inside level st n ≡ false
    → is_inside level (with_session st m (closed (session_of st m))) n ≡ false
left_stays level st m n o h =
    let there : is_in st.log level (get_or st.sessions (n - 1) no_session) ≡ false = ap (is_in st.log level) (sym (outside_place level st n h)) ∙ h in
    let here : n - 1 ≡ m - 1 → is_in st.log level (closed (session_of st m)) ≡ false = λ e.
    ap (is_in st.log level) (at_number st m (open_number st m o) ∙ ap (λ i. get_or st.sessions i no_session) (sym e)) ∙ there in
    ap (is_in st.log level) (at_number (with_session st m (closed (session_of st m))) n (outside_number level st n h))
    ∙ set_stays level st.log st.sessions (n - 1) (m - 1) (closed (session_of st m)) (in_range level st n h) here there

next_stays : (read : Reader) (level : List ℕ) (st : State) (x : Step) (n : ℕ) → Sound st → crosses read level st x ≡ false → is_inside level st n ≡ false
    → is_inside level (next read st x) n ≡ false
next_stays read level st opens n v q h =
    let there : is_in st.log level (get_or st.sessions (n - 1) no_session) ≡ false = ap (is_in st.log level) (sym (outside_place level st n h)) ∙ h in
    let opened : State = record st { sessions = st.sessions ++ new_session ∷ [] } in
    let older = get_or_append_left st.sessions (new_session ∷ []) no_session (n - 1) (in_range level st n h) in
    let same = at_number opened n (outside_number level st n h) ∙ older in
    ap (is_in st.log level) same ∙ there
next_stays read level st (asks m line) n v q h = by (session_of st m).is_open refl where
  by : (b : Bool) → (session_of st m).is_open ≡ b → is_inside level (cond b (with_outcome st m (ask read st.log (session_of st m) line)) st) n ≡ false
  by true e = asked_stays read level st v m line n e (rw e at q) h
  by false e = h
next_stays read level st (refused m) n v q h = h
next_stays read level st long n v q h = h
next_stays read level st stray n v q h = h
next_stays read level st (leaves m) n v q h = by (session_of st m).is_open refl where
  by : (b : Bool) → (session_of st m).is_open ≡ b → is_inside level (cond b (with_session st m (closed (session_of st m))) st) n ≡ false
  by true e = left_stays level st m n e h
  by false e = h

-- over a run: what is inside after more steps was so before them
inside_before : (read : Reader) (level : List ℕ) (st : State) (steps more : List Step) (n : ℕ) → Sound st → quiet read level st (steps ++ more) ≡ true
    → is_inside level (run read st (steps ++ more)) n ≡ true → is_inside level (run read st steps) n ≡ true
inside_before read level st [] [] n v q h = h
inside_before read level st [] (x ∷ more) n v q h =
    let parts : (crosses read level st x ≡ false) × (quiet read level (next read st x) more ≡ true) = grind (arith, nat_tests) in
    let after = inside_before read level (next read st x) [] more n (next_sound read st x v) parts.1 h in
    elim (cases_Bool (is_inside level st n)) [ inl i ↦ i | inr o ↦ absurd (false≢true (sym (next_stays read level st x n v parts.0 o) ∙ after)) ]
inside_before read level st (x ∷ steps) more n v q h =
    let parts : (crosses read level st x ≡ false) × (quiet read level (next read st x) (steps ++ more) ≡ true) = grind (arith, nat_tests) in
    inside_before read level (next read st x) steps more n (next_sound read st x v) parts.1 h

pub inside_since_the_start : InsideSinceTheStart
inside_since_the_start read level steps more n = inside_before read level opening steps more n Rattle.ifdb_laws.proofs.two_worlds.Sound.opening_sound
