-- The log of a longer history is a longer log, and what the history adds stands behind the log that there was.
use Rattle.std.proofs.Common.{◌≡◌, ◌+◌, Bool, true, false, List, [], ◌∷◌, ◌++◌, ◌∙◌, length, drop, refl, sym, ap, subst, arith, cond}
use Rattle.std.specs.Prelude.{option_to_list}
use Rattle.std.proofs.Math.Seq.{drop-append_seam}
use Rattle.std.proofs.lemmas.List.{append_assoc, append-nil}
use mathlib.Core.List.{IsPrefix}
use Rattle.ifdb_model.specs.Log.{Entry as LogEntry, changes, commits, commits_of}
use Rattle.ifdb_model.specs.Session.{closed}
use Rattle.ifdb_model.specs.Step.{Reader, ask}
use Rattle.ifdb_model.specs.Run.{State, session_of, Step, opens, asks, refused, long, stray, leaves, next, with_outcome, with_session, run}
use Rattle.ifdb_history.specs.declared.entry.Entry.{Entry}
use Rattle.ifdb_history.specs.History.{Start, first_state, flat, after, added_in}
use Rattle.ifdb_history.specs.Counts.{commits_in}
use Rattle.ifdb_history.proofs.Flat.{after-append}

module _ (read : Reader) where
  next_log : (st : State) (x : Step) → IsPrefix st.log (next read st x).log
  next_log st opens = ([], append-nil st.log)
  next_log st (asks n line) = by (session_of st n).is_open where
    by : (b : Bool) → IsPrefix st.log (cond b (with_outcome st n (ask read st.log (session_of st n) line)) st).log
    by true = (option_to_list (ask read st.log (session_of st n) line).added, refl)
    by false = ([], append-nil st.log)
  next_log st (refused n) = ([], append-nil st.log)
  next_log st long = ([], append-nil st.log)
  next_log st stray = ([], append-nil st.log)
  next_log st (leaves n) = by (session_of st n).is_open where
    by : (b : Bool) → IsPrefix st.log (cond b (with_session st n (closed (session_of st n))) st).log
    by true = ([], append-nil st.log)
    by false = ([], append-nil st.log)

  run_log : (st : State) (steps : List Step) → IsPrefix st.log (run read st steps).log
  run_log st [] = ([], append-nil st.log)
  run_log st (x ∷ steps) =
      let one = next_log st x in
      let more = run_log (next read st x) steps in
      (one.0 ++ more.0, sym (append_assoc st.log one.0 more.0) ∙ ap (λ l. l ++ more.0) one.1 ∙ more.1)

-- the commits of one log and then of another
pub commits_of-append : (a b : List LogEntry) → length (commits_of (a ++ b)) ≡ length (commits_of a) + length (commits_of b)
commits_of-append [] b = omega arith
commits_of-append (changes c ∷ a) b = commits_of-append a b
commits_of-append (commits ws ∷ a) b = let more = commits_of-append a b in omega (arith, more)

module _ (start : Start) where
  pub log_on : (h log : List Entry) → IsPrefix h log → IsPrefix (after start h).log (after start log).log
  log_on h log front =
      subst (λ l. IsPrefix (after start h).log (after start l).log) front.1
      (subst (λ (st : State). IsPrefix (after start h).log st.log) (sym (after-append start h front.0)) (run_log start.read (after start h) (flat front.0)))

  -- the log after a history is the one that there was, and what the history added
  pub log_added : (h : List Entry) → (after start h).log ≡ start.log ++ added_in start h
  log_added h =
      let more = run_log start.read (first_state start) (flat h) in
      let added : added_in start h ≡ more.0 = ap (drop (length start.log)) (sym more.1) ∙ drop-append_seam start.log more.0 in
      sym more.1 ∙ ap (λ l. start.log ++ l) (sym added)

  -- so are its commits
  pub commits_added : (h : List Entry) → length (commits_of (after start h).log) ≡ length (commits_of start.log) + commits_in start h
  commits_added h = ap (λ l. length (commits_of l)) (log_added h) ∙ commits_of-append start.log (added_in start h)
