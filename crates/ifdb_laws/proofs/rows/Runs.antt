-- In every run each row's parents are live.
use Rattle.std.proofs.Common.{◌≡◌, ℕ, ◌-◌, Bool, true, false, List, [], ◌∷◌, ◌++◌, length, get_or, refl, sym, ap, ◌∙◌, arith, cond, ◌&&◌, ltb, Some, None, Ok, Err, Option, Result, inl, inr}
use Rattle.std.specs.Prelude.{option_to_list, All}
use Rattle.std.proofs.lemmas.Bool.{cases_lt}
use Rattle.std.proofs.lemmas.Bool.Decides.{nat_tests}
use Rattle.std.proofs.lemmas.List.{get_or_past}
use Rattle.std.proofs.lemmas.List.Elements.{All-nil, All-get_or, All-set, All-push}
use Rattle.ifdb_row.specs.declared.row.Row.{Row}
use Rattle.ifdb_row.specs.declared.write.Write.{Write}
use Rattle.ifdb_row.specs.Writes.{is_fitting, are_fitting}
use Rattle.ifdb_row.specs.Content.{after, content_from, are_rooted}
use Rattle.ifdb_row.specs.Verdict.{leaves}
use Rattle.ifdb_row.proofs.LiveLaws.{merged_all}
use Rattle.ifdb_row.proofs.RootedLaws.{go_rooted}
use Rattle.ifdb_bound.specs.declared.request.Bound.{Bound}
use Rattle.ifdb_syntax.specs.declared.request.Request.{Request}
use Rattle.ifdb_wire.specs.declared.fault.Fault.{Fault}
use Rattle.ifdb_model.specs.Log.{Entry, changes, commits, all_tags, commits_of, content_of, written_of}
use Rattle.ifdb_model.specs.Session.{Txn, Session, new_session, no_session, closed, seen_in, seen}
use Rattle.ifdb_model.specs.Writes.{Written, writes_of, is_delete}
use Rattle.ifdb_model.specs.Step.{Reader, Outcome, ask}
use Rattle.ifdb_model.specs.Run.{State, opening, session_of, Step, opens, asks, refused, long, stray, leaves as left_out, with_outcome, with_session, next, run}
use Rattle.ifdb_model.proofs.LogLaws.{content_from-append}
use Rattle.ifdb_laws.specs.RowLaws.{ParentsLive}
use Rattle.ifdb_laws.proofs.Shapes.{Shape, stayed, greeted_as, relabelled_to, begun, ended, published, joined, wrote, done, shape}
use Rattle.ifdb_laws.proofs.Statements.{is_good, writes_good}
use Rattle.ifdb_laws.proofs.Logs.{all_commits, txn_all}
use Rattle.ifdb_laws.proofs.rows.Rooted.{keeps, writes_rooted}

pub good_fits : (w : Written) (o : Result Written Fault) → o ≡ Ok w → is_good (λ s. true) o ≡ true → are_fitting w.writes ≡ true
good_fits w o e g = let h = ap (is_good (λ s. true)) (sym e) ∙ g in grind (arith, nat_tests)

-- what a statement writes has its slots
pub written_fits : (log : List Entry) (s : Session) (asker : ℕ) (b : Bound) (w : Written) → writes_of (seen log s).public asker (seen log s).rows s.label b ≡ Ok w → are_fitting w.writes ≡ true
written_fits log s asker b w e =
    good_fits w (writes_of (seen log s).public asker (seen log s).rows s.label b) e (writes_good (seen log s).public asker (seen log s).rows s.label (λ t. true) (λ t i. refl) b)

-- own writes have their slots
pub own_fits : (log : List Entry) (s : Session) (line : Result Request Fault) (o : Outcome) → Shape log s line o → txn_all are_fitting s.txn ≡ true → txn_all are_fitting o.session.txn ≡ true
own_fits log s line o (stayed r) h = h
own_fits log s line o (greeted_as n g lt) h = h
own_fits log s line o (relabelled_to asker r label v x y) h = h
own_fits log s line o (begun t) h = refl
own_fits log s line o (ended b r why) h = refl
own_fits log s line o (published asker r c line_is t i p z) h = h
own_fits log s line o (joined asker r b x w a t e) h =
    merged_all (λ (v : Write). is_fitting v.slot v.row) x.own w.writes (ap (txn_all are_fitting) (sym t) ∙ h) (written_fits log s asker b w e)
own_fits log s line o (wrote asker r b w a t e d) h = h
own_fits log s line o (done x t j) h = refl

-- and so has what is committed
pub added_fits : (log : List Entry) (s : Session) (line : Result Request Fault) (o : Outcome) → Shape log s line o → txn_all are_fitting s.txn ≡ true → all_commits are_fitting (option_to_list o.added) ≡ true
added_fits log s line o (stayed r) h = refl
added_fits log s line o (greeted_as n g lt) h = refl
added_fits log s line o (relabelled_to asker r label v x y) h = refl
added_fits log s line o (begun t) h = refl
added_fits log s line o (ended b r why) h = refl
added_fits log s line o (published asker r c line_is t i p z) h = refl
added_fits log s line o (joined asker r b x w a t e) h = refl
added_fits log s line o (wrote asker r b w a t e d) h = let one = written_fits log s asker b w e in grind (arith, nat_tests)
added_fits log s line o (done x t j) h = let one = ap (txn_all are_fitting) (sym t) ∙ h in grind (arith, nat_tests)

-- what is added leaves parents live
abbrev all_rooted : List Row → Bool
all_rooted rows = are_rooted rows rows

abbrev adds_rooted : List Row → Option Entry → Bool
adds_rooted before None = true
adds_rooted before (Some (changes c)) = true
adds_rooted before (Some (commits ws)) = all_rooted (after before ws)

pub written_rooted : (rows : List Row) (d : Bool) (w : Written) (o : Result Written Fault) → o ≡ Ok w → keeps rows d o ≡ true → are_fitting w.writes ≡ true → d && leaves (after rows w.writes) w.writes ≡ false
    → all_rooted (after rows w.writes) ≡ true
written_rooted rows d w o e k f l = let h = ap (keeps rows d) (sym e) ∙ k in grind (arith, nat_tests)

added_rooted : (log : List Entry) (s : Session) (line : Result Request Fault) (o : Outcome) → Shape log s line o → txn_all are_fitting s.txn ≡ true → all_rooted (content_of log) ≡ true → adds_rooted (content_of log) o.added ≡ true
added_rooted log s line o (stayed r) f h = refl
added_rooted log s line o (greeted_as n g lt) f h = refl
added_rooted log s line o (relabelled_to asker r label v x y) f h = refl
added_rooted log s line o (begun t) f h = refl
added_rooted log s line o (ended b r why) f h = refl
added_rooted log s line o (published asker r c line_is t i p z) f h = refl
added_rooted log s line o (joined asker r b x w a t e) f h = refl
added_rooted log s line o (wrote asker r b w a t e d) f h =
    let whole : (seen log s).rows ≡ content_of log = ap (λ (u : Option Txn). (seen_in log u).rows) t in
    ap (λ rows. all_rooted (after rows w.writes)) (sym whole)
    ∙ written_rooted (seen log s).rows (is_delete b) w (writes_of (seen log s).public asker (seen log s).rows s.label b) e
    (writes_rooted (seen log s).rows (ap all_rooted whole ∙ h) (seen log s).public asker s.label b) (written_fits log s asker b w e) d
added_rooted log s line o (done x t j) f h = go_rooted (all_tags log) (content_of log) (written_of (Rattle.std.proofs.Common.drop x.begin log)) x.own s.label (ap (txn_all are_fitting) (sym t) ∙ f) h j

still_rooted : (rows : List Row) (a : Option Entry) → all_rooted rows ≡ true → adds_rooted rows a ≡ true → all_rooted (content_from rows (commits_of (option_to_list a))) ≡ true
still_rooted rows None h k = h
still_rooted rows (Some (changes c)) h k = h
still_rooted rows (Some (commits ws)) h k = k

-- ---- runs

abbrev Fits : Session → Type 0
Fits s = txn_all are_fitting s.txn ≡ true

record Rooted (st : State) : Type 0 where
  pub rooted : all_rooted (content_of st.log) ≡ true
  pub sessions : All Fits st.sessions

-- what holds of each session, and of one that isn't there, holds of the session of a number
pub session_has : (P : Session → Type 0) (st : State) → All P st.sessions → P no_session → (n : ℕ) → P (session_of st n)
session_has P st h c n = by (ltb 0 n) where
  at : (i : ℕ) → P (get_or st.sessions i no_session)
  at i = elim (cases_lt i (length st.sessions)) [ inl lt ↦ All-get_or P st.sessions i no_session lt h | inr le ↦ let e = get_or_past st.sessions i no_session le in rw e c ]

  by : (b : Bool) → P (cond b (get_or st.sessions (n - 1) no_session) no_session)
  by true = at (n - 1)
  by false = c

asked_rooted : (read : Reader) (st : State) → Rooted st → (n : ℕ) (line : List ℕ) → Rooted (with_outcome st n (ask read st.log (session_of st n) line))
asked_rooted read st v n line =
    let s = session_of st n in
    let f = session_has Fits st v.sessions refl n in
    let o = ask read st.log s line in
    let h = shape read st.log s line in
    record {
      rooted = ap all_rooted (content_from-append [] st.log (option_to_list o.added)) ∙ still_rooted (content_of st.log) o.added v.rooted (added_rooted st.log s (read line) o h f v.rooted);
      sessions = All-set Fits st.sessions (n - 1) o.session (own_fits st.log s (read line) o h f) v.sessions;
    }

either : (b : Bool) (st u : State) → Rooted st → Rooted u → Rooted (cond b st u)
either true st u h k = h
either false st u h k = k

next_rooted : (read : Reader) (st : State) (x : Step) → Rooted st → Rooted (next read st x)
next_rooted read st opens v = record { rooted = v.rooted; sessions = All-push Fits st.sessions new_session v.sessions refl }
next_rooted read st (asks n line) v = either (session_of st n).is_open (with_outcome st n (ask read st.log (session_of st n) line)) st (asked_rooted read st v n line) v
next_rooted read st (refused n) v = v
next_rooted read st long v = v
next_rooted read st stray v = v
next_rooted read st (left_out n) v = either (session_of st n).is_open (with_session st n (closed (session_of st n))) st
    (record { rooted = v.rooted; sessions = All-set Fits st.sessions (n - 1) (closed (session_of st n)) refl v.sessions }) v

run_rooted : (read : Reader) (steps : List Step) (st : State) → Rooted st → Rooted (run read st steps)
run_rooted read [] st v = v
run_rooted read (x ∷ steps) st v = run_rooted read steps (next read st x) (next_rooted read st x v)

pub parents_live_lem : ParentsLive
parents_live_lem read steps = (run_rooted read steps opening (record { rooted = refl; sessions = All-nil Fits })).rooted
