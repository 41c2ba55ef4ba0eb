-- In each state of a run that begins where all fits, all fits; so each commit of the run passes the test for a recorded one, and the
-- records of the run restore what it adds to the log.
use Rattle.std.proofs.Common.{◌≡◌, ℕ, ◌-◌, Bool, true, false, List, [], ◌∷◌, ◌++◌, ◌∙◌, length, take, drop, refl, sym, ap, subst, arith, cond, Option, Some, None, Result}
use Rattle.std.specs.Prelude.{◌&&◌, All, option_to_list}
use Rattle.std.specs.List.{list_all}
use Rattle.std.proofs.lemmas.Bool.{leb-true}
use Rattle.std.proofs.lemmas.Bool.Decides.{nat_tests}
use Rattle.std.proofs.lemmas.List.{append-nil, length-map, take-append-drop, take-append-le, take_all}
use Rattle.std.proofs.lemmas.List.Elements.{All-push, All-set}
use Rattle.ifdb_value.proofs.Lists.{all_wider}
use Rattle.ifdb_label.specs.Tags.{are_made}
use Rattle.ifdb_row.specs.declared.row.Row.{Row}
use Rattle.ifdb_row.specs.declared.write.Write.{Write}
use Rattle.ifdb_row.specs.Writes.{are_fitting, merged}
use Rattle.ifdb_row.specs.Content.{after, are_rooted, content_from}
use Rattle.ifdb_row.proofs.ContentLaws.{all-after}
use Rattle.ifdb_row.proofs.RootedLaws.{go_rooted}
use Rattle.ifdb_redo.specs.declared.record.RedoRecord.{RedoRecord}
use Rattle.ifdb_bound.specs.declared.request.Change.{Change}
use Rattle.ifdb_syntax.specs.declared.request.Request.{Request}
use Rattle.ifdb_wire.specs.declared.fault.Fault.{Fault}
use Rattle.ifdb_catalog.specs.Public.{Public, tags_of, changed}
use Rattle.ifdb_catalog.proofs.BoundRequestsFit.{bound_is_fitting}
use Rattle.ifdb_catalog.proofs.Made as made_by_binding
use Rattle.ifdb_model.specs.Log.{Entry, changes, commits, public_from, public_of, all_tags, commits_of, content_of, written_of}
use Rattle.ifdb_model.specs.Session.{Txn, Session, new_session, closed, seen_in, seen}
use Rattle.ifdb_model.specs.Writes.{is_delete, writes_of}
use Rattle.ifdb_model.specs.Step.{Reader, Outcome, ask}
use Rattle.ifdb_model.specs.Run.{State, session_of, Step, opens, asks, refused, long, stray, leaves, with_outcome, with_session, next, run}
use Rattle.ifdb_model.proofs.LogLaws.{public_from-append, content_from-append}
use Rattle.ifdb_laws.specs.RowLaws.{row_fits, rows_fit}
use Rattle.ifdb_laws.proofs.Shapes.{Shape, stayed, greeted_as, relabelled_to, begun, ended, published, joined, wrote, done, shape}
use Rattle.ifdb_laws.proofs.Logs.{all_commits, all_commits_append, begins_within, is_made_slot, txn_all}
use Rattle.ifdb_laws.proofs.two_worlds.Outcomes.{PassesWrites, log_after, more_made, outcome_all, outcome_writes, added_by, seen_tags, tag_count}
use Rattle.ifdb_laws.proofs.two_worlds.Sound.{Sound, are_sound, asked_sound, left_sound, line_tidy, more_tags, next_sound, session_sound, sound_fits, sound_slots, txn_from}
use Rattle.ifdb_laws.proofs.rows.Fits.{write_fits, statement_fits}
use Rattle.ifdb_laws.proofs.rows.Fitting.{are_fit, fits_changed}
use Rattle.ifdb_laws.proofs.rows.Rooted.{writes_rooted}
use Rattle.ifdb_laws.proofs.rows.Runs.{session_has, written_fits, written_rooted}
use Rattle.ifdb_restore.specs.Passing.{commit_fits, is_fit}
use Rattle.ifdb_restore.specs.Redone.{entry_if, longer, recorded, records, records_at, restored, restored_behind}
use Rattle.ifdb_restore.proofs.Redone.{redone_lem}

-- ---- what fits a log fits each longer one

fits_from : (p : Public) (log : List Entry) (r : Row) → row_fits p r ≡ true → row_fits (public_from p log) r ≡ true
fits_from p [] r h = h
fits_from p (changes c ∷ log) r h = fits_from (changed p c) log r (fits_changed p c r h)
fits_from p (commits ws ∷ log) r h = fits_from p log r h

fits_longer : (log more : List Entry) (r : Row) → row_fits (public_of log) r ≡ true → row_fits (public_of (log ++ more)) r ≡ true
fits_longer log more r h = ap (λ p. row_fits p r) (public_from-append (public_of []) log more) ∙ fits_from (public_of log) more r h

fits_all : (b : ℕ) (log : List Entry) (r : Row) → row_fits (public_of (take b log)) r ≡ true → row_fits (public_of log) r ≡ true
fits_all b log r h = sym (ap (λ l. row_fits (public_of l) r) (take-append-drop b log)) ∙ fits_longer (take b log) (drop b log) r h

-- the rows of a log fit
abbrev pub ContentFits : List Entry → Type 0
ContentFits log = rows_fit (seen_in log None) ≡ true

pub commit_public : (log : List Entry) (ws : List Write) → public_of (log ++ commits ws ∷ []) ≡ public_of log
commit_public log ws = public_from-append (public_of []) log (commits ws ∷ [])

pub commit_rows : (log : List Entry) (ws : List Write) → content_of (log ++ commits ws ∷ []) ≡ after (content_of log) ws
commit_rows log ws = content_from-append [] log (commits ws ∷ [])

pub commit_content : (log : List Entry) (ws : List Write) → ContentFits log → are_fit (public_of log) ws ≡ true → ContentFits (log ++ commits ws ∷ [])
commit_content log ws h new = (λ i. list_all (row_fits (commit_public log ws i)) (commit_rows log ws i)) ∙ all-after (row_fits (public_of log)) (content_of log) ws new h

content_grows : (log : List Entry) (a : Option Entry) → ContentFits log → all_commits (are_fit (public_of log)) (option_to_list a) ≡ true → ContentFits (log ++ option_to_list a)
content_grows log None h k = subst ContentFits (sym (append-nil log)) h
content_grows log (Some (changes c)) h k =
    let rows : content_of (log ++ changes c ∷ []) ≡ content_of log = content_from-append [] log (changes c ∷ []) in
    let more = all_wider (row_fits (public_of log)) (row_fits (public_of (log ++ changes c ∷ []))) (content_of log) (fits_longer log (changes c ∷ [])) h in
    ap (λ x. list_all (row_fits (public_of (log ++ changes c ∷ []))) x) rows ∙ more
content_grows log (Some (commits ws)) h k = commit_content log ws h (grind (arith, nat_tests))

-- ---- sessions

-- what a transaction saw at its BEGIN fits, and so do its own writes
abbrev pub FitsTxn : List Entry → Option Txn → Type 0
FitsTxn log None = Unit {0}
FitsTxn log (Some x) = ContentFits (take x.begin log) × (are_fit (public_of (take x.begin log)) x.own ≡ true)

-- so it is with a session's, and its label is of tags that it sees
pub record FitsAs (log : List Entry) (label : List ℕ) (o : Option Txn) : Type 0 where
  made : are_made (length (tags_of (seen_in log o).public)) label ≡ true
  txn : FitsTxn log o

abbrev pub FitsSession : List Entry → Session → Type 0
FitsSession log s = FitsAs log s.label s.txn

pub idle_fits : (log : List Entry) (label : List ℕ) → are_made (tag_count log) label ≡ true → FitsAs log label None
idle_fits log label m = record { made = m; txn = tt }

without : (log : List Entry) (s : Session) → s.txn ≡ None → are_made (tag_count log) s.label ≡ true → FitsSession log s
without log s e m = subst (FitsAs log s.label) (sym e) (idle_fits log s.label m)

on_longer : (log more : List Entry) (label : List ℕ) (o : Option Txn) → begins_within (length log) o ≡ true → FitsAs log label o → FitsAs (log ++ more) label o
on_longer log more label None b k = idle_fits (log ++ more) label (more_made (tag_count log) (tag_count (log ++ more)) label (more_tags log more) k.made)
on_longer log more label (Some x) b k =
    let same = take-append-le x.begin log more (leb-true x.begin (length log) b) in
    record {
      made = ap (λ l. are_made (length (all_tags l)) label) same ∙ k.made;
      txn = (subst ContentFits (sym same) k.txn.0, ap (λ l. are_fit (public_of l) x.own) same ∙ k.txn.1);
    }

rows_seen : (log : List Entry) (o : Option Txn) → ContentFits log → FitsTxn log o → rows_fit (seen_in log o) ≡ true
rows_seen log None f k = f
rows_seen log (Some x) f k = all-after (row_fits (public_of (take x.begin log))) (content_of (take x.begin log)) x.own k.1 k.0

own_fits : (log : List Entry) (o : Option Txn) → FitsTxn log o → txn_all (are_fit (seen_in log o).public) o ≡ true
own_fits log None k = refl
own_fits log (Some x) k = k.1

own_later : (log : List Entry) (o : Option Txn) (ws : List Write) → are_fit (seen_in log o).public ws ≡ true → are_fit (public_of log) ws ≡ true
own_later log None ws h = h
own_later log (Some x) ws h =
    all_wider (write_fits (public_of (take x.begin log))) (write_fits (public_of log)) ws
    (λ w e. all_wider (row_fits (public_of (take x.begin log))) (row_fits (public_of log)) (option_to_list w.row) (fits_all x.begin log) e) h

module _ (log : List Entry) (s : Session) (line : Result Request Fault) (k : FitsSession log s) (f : ContentFits log) where
  new_fit : PassesWrites (write_fits (seen log s).public) log s line
  new_fit asker r b i = statement_fits (seen log s).public (seen log s).rows (rows_seen log s.txn f k.txn) s.label k.made asker b (bound_is_fitting (seen log s).public asker r b i.found)

  label_later : are_made (tag_count log) s.label ≡ true
  label_later = more_made (length (tags_of (seen log s).public)) (tag_count log) s.label (seen_tags log s.txn) k.made

  all_fit : (o : Outcome) → Shape log s line o → outcome_all (write_fits (seen log s).public) o ≡ true
  all_fit o x = outcome_writes (write_fits (seen log s).public) log s line (own_fits log s.txn k.txn) new_fit o x

  added_fit : (o : Outcome) → Shape log s line o → all_commits (are_fit (public_of log)) (option_to_list o.added) ≡ true
  added_fit o x = by o.added (let h = all_fit o x in grind (arith, nat_tests)) where
    by : (a : Option Entry) → all_commits (are_fit (seen log s).public) (option_to_list a) ≡ true → all_commits (are_fit (public_of log)) (option_to_list a) ≡ true
    by None h = refl
    by (Some (changes c)) h = refl
    by (Some (commits ws)) h = let one = own_later log s.txn ws (grind (arith, nat_tests)) in grind (arith, nat_tests)

  -- the session beside the log of before
  session_fits : (o : Outcome) → Shape log s line o → FitsSession log o.session
  session_fits o (stayed r) = k
  session_fits o (greeted_as n g lt) = k
  session_fits o (relabelled_to asker r label v e i) = record { made = made_by_binding.label_made (seen log s).public asker r label e; txn = k.txn }
  session_fits o (begun t) =
      let all = take_all (length log) log (omega arith) in
      record { made = ap (λ l. are_made (length (all_tags l)) s.label) all ∙ label_later; txn = (subst ContentFits (sym all) f, refl) }
  session_fits o (ended b r why) = idle_fits log s.label label_later
  session_fits o (published asker r c line_is t i e p) = k
  session_fits o (joined asker r b x w i t e) =
      let h = all_fit o (joined asker r b x w i t e) in
      let own : are_fit (seen log s).public (merged x.own w.writes) ≡ true = grind (arith, nat_tests) in
      record {
        made = ap (λ u. are_made (length (tags_of (seen_in log u).public)) s.label) (sym t) ∙ k.made;
        txn = ((subst (FitsTxn log) t k.txn).0, ap (λ u. are_fit (seen_in log u).public (merged x.own w.writes)) (sym t) ∙ own);
      }
  session_fits o (wrote asker r b w i t e d) = k
  session_fits o (done x t j) = idle_fits log s.label label_later

-- ---- parents

abbrev pub all_rooted : List Row → Bool
all_rooted rows = are_rooted rows rows

-- what is added leaves each row's parents
abbrev adds_rooted : List Row → Option Entry → Bool
adds_rooted before None = true
adds_rooted before (Some (changes c)) = true
adds_rooted before (Some (commits ws)) = all_rooted (after before ws)

added_rooted : (log : List Entry) (s : Session) (line : Result Request Fault) (o : Outcome) → Shape log s line o → txn_all are_fitting s.txn ≡ true → all_rooted (content_of log) ≡ true → adds_rooted (content_of log) o.added ≡ true
added_rooted log s line o (stayed r) f h = refl
added_rooted log s line o (greeted_as n g lt) f h = refl
added_rooted log s line o (relabelled_to asker r label v x y) f h = refl
added_rooted log s line o (begun t) f h = refl
added_rooted log s line o (ended b r why) f h = refl
added_rooted log s line o (published asker r c line_is t i p z) f h = refl
added_rooted log s line o (joined asker r b x w a t e) f h = refl
added_rooted log s line o (wrote asker r b w a t e d) f h =
    let whole : (seen log s).rows ≡ content_of log = ap (λ (u : Option Txn). (seen_in log u).rows) t in
    ap (λ rows. all_rooted (after rows w.writes)) (sym whole)
    ∙ written_rooted (seen log s).rows (is_delete b) w (writes_of (seen log s).public asker (seen log s).rows s.label b) e
    (writes_rooted (seen log s).rows (ap all_rooted whole ∙ h) (seen log s).public asker s.label b) (written_fits log s asker b w e) d
added_rooted log s line o (done x t j) f h = go_rooted (all_tags log) (content_of log) (written_of (drop x.begin log)) x.own s.label (ap (txn_all are_fitting) (sym t) ∙ f) h j

still_rooted : (log : List Entry) (a : Option Entry) → all_rooted (content_of log) ≡ true → adds_rooted (content_of log) a ≡ true → all_rooted (content_of (log ++ option_to_list a)) ≡ true
still_rooted log a h k = ap all_rooted (content_from-append [] log (option_to_list a)) ∙ by a k where
  by : (a : Option Entry) → adds_rooted (content_of log) a ≡ true → all_rooted (content_from (content_of log) (commits_of (option_to_list a))) ≡ true
  by None k = h
  by (Some (changes c)) k = h
  by (Some (commits ws)) k = k

-- ---- states

-- the writes of the log are sound, its rows fit their tables and have their parents, and its sessions are such as a run brings
pub record IsFit (st : State) : Type 0 where
  pub sound : Sound st
  pub content : ContentFits st.log
  pub rooted : all_rooted (content_of st.log) ≡ true
  pub sessions : All (FitsSession st.log) st.sessions

session_fit : (st : State) → IsFit st → (n : ℕ) → FitsSession st.log (session_of st n)
session_fit st v n = session_has (FitsSession st.log) st v.sessions (idle_fits st.log [] refl) n

fitting_own : (st : State) → IsFit st → (n : ℕ) → txn_all are_fitting (session_of st n).txn ≡ true
fitting_own st v n = txn_from (are_sound (tag_count st.log)) are_fitting (sound_fits (tag_count st.log)) (session_of st n).txn (session_sound st v.sound n).own

pub asked_fit : (read : Reader) (st : State) → IsFit st → (n : ℕ) (line : List ℕ) → IsFit (with_outcome st n (ask read st.log (session_of st n) line))
asked_fit read st v n line =
    let s = session_of st n in
    let o = ask read st.log s line in
    let x = shape read st.log s line in
    let k = session_fit st v n in
    let more = added_by read st.log s line in
    let later = log_after read st.log s line in
    record {
      sound = asked_sound read st v.sound n line;
      content = content_grows st.log o.added v.content (added_fit st.log s (read line) k v.content o x);
      rooted = still_rooted st.log o.added v.rooted (added_rooted st.log s (read line) o x (fitting_own st v n) v.rooted);
      sessions =
          let begins = (line_tidy st.log s v.sound.sound_log (session_sound st v.sound n) read line).begins in
          let here = on_longer st.log more o.session.label o.session.txn begins (session_fits st.log s (read line) k v.content o x) in
          All-set (FitsSession later) st.sessions (n - 1) o.session here (others st v more);
    } where
      others : (st : State) → IsFit st → (more : List Entry) → All (FitsSession (st.log ++ more)) st.sessions
      others st v more i d lt = on_longer st.log more _ _ (v.sound.sound_sessions i d lt).begins (v.sessions i d lt)

either : (b : Bool) (st u : State) → IsFit st → IsFit u → IsFit (cond b st u)
either true st u h k = h
either false st u h k = k

left_fit : (st : State) → IsFit st → (n : ℕ) → IsFit (with_session st n (closed (session_of st n)))
left_fit st v n = record {
  sound = left_sound st v.sound n;
  content = v.content;
  rooted = v.rooted;
  sessions = All-set (FitsSession st.log) st.sessions (n - 1) (closed (session_of st n)) (idle_fits st.log (session_of st n).label (session_sound st v.sound n).label_made) v.sessions;
}

next_fit : (read : Reader) (st : State) (x : Step) → IsFit st → IsFit (next read st x)
next_fit read st opens v = record {
  sound = next_sound read st opens v.sound;
  content = v.content;
  rooted = v.rooted;
  sessions = All-push (FitsSession st.log) st.sessions new_session v.sessions (idle_fits st.log [] refl);
}
next_fit read st (asks n line) v = either (session_of st n).is_open (with_outcome st n (ask read st.log (session_of st n) line)) st (asked_fit read st v n line) v
next_fit read st (refused n) v = v
next_fit read st long v = v
next_fit read st stray v = v
next_fit read st (leaves n) v = either (session_of st n).is_open (with_session st n (closed (session_of st n))) st (left_fit st v n) v

-- ---- a commit passes the test

both_all : (p : Public) (n : ℕ) (ws : List Write) → n ≡ length p.tags → list_all (λ (w : Write). is_made_slot n w.slot) ws ≡ true → are_fit p ws ≡ true → list_all (is_fit p) ws ≡ true
both_all p n [] e h k = refl
both_all p n (w ∷ ws) e h k =
    let made : (are_made n w.slot.label ≡ true) × (list_all (λ (v : Write). is_made_slot n v.slot) ws ≡ true) = grind (arith, nat_tests) in
    let fit : (write_fits p w ≡ true) × (are_fit p ws ≡ true) = grind (arith, nat_tests) in
    let one : are_made (length p.tags) w.slot.label ≡ true = ap (λ m. are_made m w.slot.label) (sym e) ∙ made.0 in
    let rest = both_all p n ws e made.1 fit.1 in
    grind (arith, nat_tests)

second : (a b : Bool) → a && b ≡ true → b ≡ true
second true b e = e
second false b e = absurd cc

-- the one commit of an entry
commit_all : (q : List Write → Bool) (ws : List Write) → all_commits q (commits ws ∷ []) ≡ true → q ws ≡ true
commit_all q ws e = grind (arith, nat_tests)

module _ (read : Reader) (st : State) (v : IsFit st) (n : ℕ) (line : List ℕ) (ws : List Write) (added : (ask read st.log (session_of st n) line).added ≡ Some (commits ws)) where
  made : list_all (λ (w : Write). is_made_slot (tag_count st.log) w.slot) ws ≡ true
  made =
      let all = (asked_sound read st v.sound n line).sound_log.writes in
      let there : all_commits (are_sound (tag_count (st.log ++ commits ws ∷ []))) (st.log ++ commits ws ∷ []) ≡ true = subst (λ (a : Option Entry). all_commits (are_sound (tag_count (st.log ++ option_to_list a))) (st.log ++ option_to_list a) ≡ true) added all in
      let tags : tag_count (st.log ++ commits ws ∷ []) ≡ tag_count st.log = ap (λ (p : Public). length (tags_of p)) (commit_public st.log ws) in
      let split = sym (all_commits_append (are_sound (tag_count (st.log ++ commits ws ∷ []))) st.log (commits ws ∷ [])) ∙ there in
      let last : are_sound (tag_count (st.log ++ commits ws ∷ [])) ws ≡ true = commit_all (are_sound (tag_count (st.log ++ commits ws ∷ []))) ws (second _ _ split) in
      sound_slots (tag_count st.log) ws (subst (λ m. are_sound m ws ≡ true) tags last)

  fits : are_fit (public_of st.log) ws ≡ true
  fits =
      let s = session_of st n in
      let o = ask read st.log s line in
      let all = added_fit st.log s (read line) (session_fit st v n) v.content o (shape read st.log s line) in
      commit_all (are_fit (public_of st.log)) ws (subst (λ (a : Option Entry). all_commits (are_fit (public_of st.log)) (option_to_list a) ≡ true) added all)

  stand : all_rooted (after (content_of st.log) ws) ≡ true
  stand =
      let s = session_of st n in
      let o = ask read st.log s line in
      subst (λ (a : Option Entry). adds_rooted (content_of st.log) a ≡ true) added (added_rooted st.log s (read line) o (shape read st.log s line) (fitting_own st v n) v.rooted)

  passes : commit_fits st.log ws ≡ true
  passes =
      let all = both_all (public_of st.log) (tag_count st.log) ws (length-map (public_of st.log).tags _) made fits in
      λ i. all i && stand i

-- ---- the records of a run restore what it adds

module _ (read : Reader) where
  -- what an entry's record restores
  one_restored : (st : State) → IsFit st → (n : ℕ) (line : List ℕ) (rest : List RedoRecord) (o : Option Entry) → (ask read st.log (session_of st n) line).added ≡ o
      → restored read commit_fits st.log (recorded (session_of st n).principal line o ++ rest) ≡ restored read commit_fits (st.log ++ option_to_list o) rest
  one_restored st v n line rest None e = ap (λ log. restored read commit_fits log rest) (sym (append-nil st.log))
  one_restored st v n line rest (Some (commits ws)) e =
      ap (λ (b : Bool). restored_behind read commit_fits (longer st.log (cond b (Some (commits ws)) None)) rest) (passes read st v n line ws e)
  one_restored st v n line rest (Some (changes c)) e =
      let again = redone_lem read st.log st.log (session_of st n) line c refl e in
      ap (λ (o : Option ℕ). restored read commit_fits st.log (recorded o line (Some (changes c)) ++ rest)) again.principal
      ∙ ap (λ (o : Option Change). restored_behind read commit_fits (longer st.log (entry_if o)) rest) again.again

  step_restored : (st : State) → IsFit st → (x : Step) (rest : List RedoRecord)
      → restored read commit_fits st.log (records_at read st x ++ rest) ≡ restored read commit_fits (next read st x).log rest
  step_restored st v opens rest = refl
  step_restored st v (refused n) rest = refl
  step_restored st v long rest = refl
  step_restored st v stray rest = refl
  step_restored st v (leaves n) rest = by (session_of st n).is_open where
    by : (b : Bool) → restored read commit_fits st.log rest ≡ restored read commit_fits (cond b (with_session st n (closed (session_of st n))) st).log rest
    by true = refl
    by false = refl
  step_restored st v (asks n line) rest = by (session_of st n).is_open where
    o : Outcome
    o = ask read st.log (session_of st n) line

    by : (b : Bool) → restored read commit_fits st.log ((cond b (recorded (session_of st n).principal line o.added) []) ++ rest) ≡ restored read commit_fits (cond b (with_outcome st n o) st).log rest
    by true = one_restored st v n line rest o.added refl
    by false = refl

  pub run_restored : (st : State) → IsFit st → (steps : List Step) → restored read commit_fits st.log (records read st steps) ≡ Some (run read st steps).log
  run_restored st v [] = refl
  run_restored st v (x ∷ steps) = step_restored st v x (records read (next read st x) steps) ∙ run_restored (next read st x) (next_fit read st x v) steps
