-- A compacted list of records restores the shorter log.
use Rattle.std.proofs.Common.{◌≡◌, ℕ, Bool, true, false, List, [], ◌∷◌, ◌++◌, refl, sym, ap, ◌∙◌, cond, append-nil, Some, None, Option}
use Rattle.std.specs.Prelude.{option_to_list}
use Rattle.ifdb_bound.specs.declared.request.Change.{Change}
use Rattle.ifdb_model.specs.Log.{Entry, changes, commits, public_of, content_of}
use Rattle.ifdb_model.specs.Session.{closed}
use Rattle.ifdb_model.specs.Step.{Reader, Outcome, ask}
use Rattle.ifdb_model.specs.Run.{State, opening, session_of, Step, opens, asks, refused, long, stray, leaves as left_out, with_outcome, with_session, next, run}
use Rattle.ifdb_restore.specs.Redone.{entry_if, recorded, records_at, records, Test, longer, grown, restored, restored_behind}
use Rattle.ifdb_redo.specs.declared.record.RedoRecord.{RedoRecord}
use Rattle.ifdb_redo.specs.declared.record.RedoRecord.TheVariants as redo
use Rattle.ifdb_restore.specs.Shorter.{changes_of, writing}
use Rattle.ifdb_restore.specs.Compacted.{asked_only, CompactedRestore}
use Rattle.ifdb_restore.proofs.Redone.{redone_lem}
use Rattle.ifdb_restore.proofs.Shortened.{public_kept}

changes_append : (a b : List Entry) → changes_of (a ++ b) ≡ changes_of a ++ changes_of b
changes_append [] b = refl
changes_append (changes c ∷ a) b = ap (λ x. changes c ∷ x) (changes_append a b)
changes_append (commits ws ∷ a) b = changes_append a b

asked_append : (a b : List RedoRecord) → asked_only (a ++ b) ≡ asked_only a ++ asked_only b
asked_append [] b = refl
asked_append (redo.Change asker line ∷ a) b = ap (λ x. redo.Change asker line ∷ x) (asked_append a b)
asked_append (redo.Commit ws ∷ a) b = asked_append a b

module _ (read : Reader) (fits : Test) where
  behind_append : (o : Option (List Entry)) (a b : List RedoRecord) → restored_behind read fits o (a ++ b) ≡ restored_behind read fits (restored_behind read fits o a) b
  behind_append o [] b = refl
  behind_append o (r ∷ a) b = behind_append (grown read fits o r) a b

  one_kept : (st : State) (n : ℕ) (line : List ℕ) (rest : List RedoRecord) (o : Option Entry) → (ask read st.log (session_of st n) line).added ≡ o
      → restored read fits (changes_of st.log) (asked_only (recorded (session_of st n).principal line o) ++ rest) ≡ restored read fits (changes_of (st.log ++ option_to_list o)) rest
  one_kept st n line rest None e = ap (λ log. restored read fits (changes_of log) rest) (sym (append-nil st.log))
  one_kept st n line rest (Some (commits ws)) e =
      ap (λ log. restored read fits log rest) (sym (changes_append st.log (commits ws ∷ []) ∙ append-nil (changes_of st.log)))
  one_kept st n line rest (Some (changes c)) e =
      let again = redone_lem read st.log (changes_of st.log) (session_of st n) line c (sym (public_kept (public_of []) st.log)) e in
      ap (λ (o : Option ℕ). restored read fits (changes_of st.log) (asked_only (recorded o line (Some (changes c))) ++ rest)) again.principal
      ∙ ap (λ (o : Option Change). restored_behind read fits (longer (changes_of st.log) (entry_if o)) rest) again.again
      ∙ ap (λ log. restored read fits log rest) (sym (changes_append st.log (changes c ∷ [])))

  step_kept : (st : State) (x : Step) (rest : List RedoRecord)
      → restored read fits (changes_of st.log) (asked_only (records_at read st x) ++ rest) ≡ restored read fits (changes_of (next read st x).log) rest
  step_kept st opens rest = refl
  step_kept st (refused n) rest = refl
  step_kept st long rest = refl
  step_kept st stray rest = refl
  step_kept st (left_out n) rest = by (session_of st n).is_open where
    by : (b : Bool) → restored read fits (changes_of st.log) rest ≡ restored read fits (changes_of (cond b (with_session st n (closed (session_of st n))) st).log) rest
    by true = refl
    by false = refl
  step_kept st (asks n line) rest = by (session_of st n).is_open where
    o : Outcome
    o = ask read st.log (session_of st n) line

    by : (b : Bool) → restored read fits (changes_of st.log) (asked_only (cond b (recorded (session_of st n).principal line o.added) []) ++ rest) ≡ restored read fits (changes_of (cond b (with_outcome st n o) st).log) rest
    by true = one_kept st n line rest o.added refl
    by false = refl

  all_kept : (st : State) (steps : List Step) → restored read fits (changes_of st.log) (asked_only (records read st steps)) ≡ Some (changes_of (run read st steps).log)
  all_kept st [] = refl
  all_kept st (x ∷ steps) =
      ap (restored read fits (changes_of st.log)) (asked_append (records_at read st x) (records read (next read st x) steps))
      ∙ step_kept st x (asked_only (records read (next read st x) steps)) ∙ all_kept (next read st x) steps

pub compacted_lem : CompactedRestore
compacted_lem read fits steps = record {
  changes = all_kept read fits opening steps;
  whole = λ pass.
      behind_append read fits (Some []) (asked_only (records read opening steps)) (redo.Commit (writing (content_of log)) ∷ [])
      ∙ ap (λ o. restored_behind read fits o (redo.Commit (writing (content_of log)) ∷ [])) (all_kept read fits opening steps)
      ∙ ap (λ (b : Bool). longer (changes_of log) (cond b (Some (commits (writing (content_of log)))) None)) pass;
} where
  log : List Entry
  log = (run read opening steps).log
