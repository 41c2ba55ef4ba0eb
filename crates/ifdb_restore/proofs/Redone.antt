-- What the redo of changes comes to.
use Rattle.std.proofs.Common.{◌≡◌, ℕ, Bool, true, false, List, [], ◌∷◌, ◌++◌, length, refl, sym, ap, subst, ◌∙◌, cond, ◌&&◌, append-nil, Some, None, Ok, Err, Option, Result}
use Rattle.std.specs.Prelude.{option_to_list}
use Rattle.ifdb_row.specs.declared.row.Row.{Row}
use Rattle.ifdb_row.specs.Content.{after}
use Rattle.ifdb_row.specs.Verdict.{leaves}
use Rattle.ifdb_bound.specs.declared.request.Bound.{Bound}
use Rattle.ifdb_bound.specs.declared.request.Bound.TheVariants as bound
use Rattle.ifdb_bound.specs.declared.request.Change.{Change}
use Rattle.ifdb_syntax.specs.declared.request.Request.{Request}
use Rattle.ifdb_wire.specs.declared.fault.Fault.{Fault}
use Rattle.ifdb_wire.specs.declared.fault.Fault.TheVariants as fault
use Rattle.ifdb_wire.specs.declared.reply.Reply.TheVariants as reply
use Rattle.ifdb_catalog.specs.Public.{Public, principal_named, is_key, refusal}
use Rattle.ifdb_catalog.specs.Binding.{bound as bound_request}
use Rattle.ifdb_model.specs.Log.{Entry, changes, commits, public_of}
use Rattle.ifdb_model.specs.Session.{Session, closed, Txn, in_txn, Seen, seen, seen_in}
use Rattle.ifdb_model.specs.Writes.{Written, writes_of, is_delete}
use Rattle.ifdb_model.specs.Step.{Reader, Outcome, tells, refuses, adds, greeted, welcomed, relabelled, relabelled_as, label_refusal, set_label, is_empty, publish, publish_bound, publish_it, land_in, land, write_bound, begin, rollback, ended, Form, greets, publishes, relabels, shows_label, begins, ends, rolls_back, leaves_us, looks, writes, form_of, answered_as, answered_new, commit_fault, ask_as, ask_by, ask_read, ask}
use Rattle.ifdb_model.specs.Run.{State, opening, session_of, Step, opens, asks, refused, long, stray, leaves as left_out, with_outcome, with_session, next, run}
use Rattle.ifdb_model.proofs.Runs.{run-append}
use Rattle.ifdb_restore.specs.Redone.{idle, change_of, entry_if, ChangesAreRedone, recorded, records_at, records, Test, restored, restored_behind, longer, CommitsPass, RecordsRestore}
use Rattle.ifdb_redo.specs.declared.record.RedoRecord.{RedoRecord}

-- ---- only a public change is added as one

no_change : (c : Change) (o : Outcome) → o.added ≡ None → o.added ≡ Some (changes c) → ⊥
no_change c o n e = absurd cc

either : (b : Bool) (x y : Outcome) → x.added ≡ None → y.added ≡ None → (cond b x y).added ≡ None
either true x y m n = m
either false x y m n = n

relabelled_adds : (p : Public) (asker : ℕ) (s : Session) (label : List ℕ) → (relabelled p asker s label).added ≡ None
relabelled_adds p asker s label = by (label_refusal p asker s label) where
  by : (o : Option Fault) → (relabelled_as s label o).added ≡ None
  by None = refl
  by (Some f) = refl

set_label_adds : (p : Public) (asker : ℕ) (s : Session) (o : Result Bound Fault) → (set_label p asker s o).added ≡ None
set_label_adds p asker s (Err f) = refl
set_label_adds p asker s (Ok (bound.SetLabel label)) = relabelled_adds p asker s label
set_label_adds p asker s (Ok (bound.Change c)) = refl
set_label_adds p asker s (Ok (bound.Select q)) = refl
set_label_adds p asker s (Ok (bound.Insert t rows given)) = refl
set_label_adds p asker s (Ok (bound.Update t assignments cond given)) = refl
set_label_adds p asker s (Ok (bound.Delete t cond)) = refl
set_label_adds p asker s (Ok bound.Other) = refl

ended_adds : (s : Session) (t : Option Txn) (o : Option Fault) (c : Change) → (ended s t o).added ≡ Some (changes c) → ⊥
ended_adds s None o c e = absurd cc
ended_adds s (Some x) None c e = absurd cc
ended_adds s (Some x) (Some f) c e = absurd cc

land_adds : (s : Session) (t : Option Txn) (rows : List Row) (d : Bool) (w : Written) (c : Change) → (land_in s t rows d w).added ≡ Some (changes c) → ⊥
land_adds s (Some x) rows d w c e = absurd cc
land_adds s None rows d w c e = by (d && leaves (after rows w.writes) w.writes) e where
  by : (b : Bool) → (cond b (refuses s fault.StillReferenced) (adds s (commits w.writes) (reply.Count w.count))).added ≡ Some (changes c) → ⊥
  by true k = absurd cc
  by false k = absurd cc

write_adds : (p : Public) (rows : List Row) (asker : ℕ) (s : Session) (o : Result Bound Fault) (c : Change) → (write_bound p rows asker s o).added ≡ Some (changes c) → ⊥
write_adds p rows asker s (Err f) c e = absurd cc
write_adds p rows asker s (Ok b) c e = by (writes_of p asker rows s.label b) e where
  by : (o : Result Written Fault) → (land s rows (is_delete b) o).added ≡ Some (changes c) → ⊥
  by (Err f) k = absurd cc
  by (Ok w) k = land_adds s s.txn rows (is_delete b) w c k

pub publishes_alone : (n : ℕ) (x : Seen) (o : Option Fault) (s : Session) (asker : ℕ) (r : Request) (f : Form) (c : Change)
    → (answered_as n x o s asker r f).added ≡ Some (changes c) → (f ≡ publishes) × ((publish x.public s (bound_request x.public asker r)).added ≡ Some (changes c))
publishes_alone n x o s asker r (greets name key) c e = absurd cc
publishes_alone n x o s asker r publishes c e = (refl, e)
publishes_alone n x o s asker r relabels c e = absurd (no_change c (set_label x.public asker s (bound_request x.public asker r)) (set_label_adds x.public asker s (bound_request x.public asker r)) e)
publishes_alone n x o s asker r shows_label c e = absurd cc
publishes_alone n x o s asker r begins c e = absurd (no_change c (begin n s) (either (in_txn s.txn) (refuses s fault.InTransaction) (tells (record s { txn = Some (record { begin = n; own = [] }) }) reply.Done) refl refl) e)
publishes_alone n x o s asker r ends c e = absurd (ended_adds s s.txn o c e)
publishes_alone n x o s asker r rolls_back c e = absurd (no_change c (rollback s) (either (in_txn s.txn) (tells (record s { txn = None }) reply.Done) (refuses s fault.NoTransaction) refl refl) e)
publishes_alone n x o s asker r leaves_us c e = absurd cc
publishes_alone n x o s asker r looks c e = absurd cc
publishes_alone n x o s asker r writes c e = absurd (write_adds x.public x.rows asker s (bound_request x.public asker r) c e)

greeted_adds : (p : Public) (s : Session) (key : List ℕ) (o : Option ℕ) → (greeted p s key o).added ≡ None
greeted_adds p s key None = refl
greeted_adds p s key (Some n) = either (is_key p n key) (tells (welcomed p s n) reply.Done) (refuses s fault.BadKey) refl refl

new_adds : (p : Public) (s : Session) (f : Form) → (answered_new p s f).added ≡ None
new_adds p s (greets name key) = greeted_adds p s key (principal_named p name)
new_adds p s publishes = refl
new_adds p s relabels = refl
new_adds p s shows_label = refl
new_adds p s begins = refl
new_adds p s ends = refl
new_adds p s rolls_back = refl
new_adds p s leaves_us = refl
new_adds p s looks = refl
new_adds p s writes = refl

-- ---- where a change is added

pub record IsPublished (p : Public) (s : Session) (o : Result Bound Fault) (c : Change) : Type 0 where
  pub txn : s.txn ≡ None
  pub found : o ≡ Ok (bound.Change c)
  pub free : refusal p c ≡ None

it_is : (p : Public) (s : Session) (d c : Change) (o : Option Fault) → refusal p d ≡ o → s.txn ≡ None → (publish_it s d o).added ≡ Some (changes c) → IsPublished p s (Ok (bound.Change d)) c
it_is p s d c None free t e =
    let same : d ≡ c = cc in
    record { txn = t; found = ap (λ (x : Change). Ok (bound.Change x)) same; free = ap (refusal p) (sym same) ∙ free }
it_is p s d c (Some f) free t e = absurd cc

bound_is : (p : Public) (s : Session) (o : Result Bound Fault) (c : Change) → s.txn ≡ None → (publish_bound p s o).added ≡ Some (changes c) → IsPublished p s o c
bound_is p s (Err f) c t e = absurd cc
bound_is p s (Ok (bound.Change d)) c t e = it_is p s d c (refusal p d) refl t e
bound_is p s (Ok (bound.SetLabel label)) c t e = absurd cc
bound_is p s (Ok (bound.Select q)) c t e = absurd cc
bound_is p s (Ok (bound.Insert table rows given)) c t e = absurd cc
bound_is p s (Ok (bound.Update table assignments cond given)) c t e = absurd cc
bound_is p s (Ok (bound.Delete table cond)) c t e = absurd cc
bound_is p s (Ok bound.Other) c t e = absurd cc

pub publish_is : (p : Public) (s : Session) (o : Result Bound Fault) (c : Change) → (publish p s o).added ≡ Some (changes c) → IsPublished p s o c
publish_is p s o c e = by s.txn refl e where
  inner : s.txn ≡ None → (b : Bool) → (cond b (publish_bound p s o) (refuses s fault.LabelNotEmpty)).added ≡ Some (changes c) → IsPublished p s o c
  inner t true k = bound_is p s o c t k
  inner t false k = absurd cc

  by : (t : Option Txn) → s.txn ≡ t → (cond (in_txn t) (refuses s fault.InTransaction) (cond (is_empty s.label) (publish_bound p s o) (refuses s fault.LabelNotEmpty))).added ≡ Some (changes c) → IsPublished p s o c
  by None t k = inner t (is_empty s.label) k
  by (Some x) t k = absurd cc

-- ---- made again

again : (other : List Entry) (asker : ℕ) (r : Request) (c : Change) (f : Form) → f ≡ publishes → bound_request (public_of other) asker r ≡ Ok (bound.Change c)
    → refusal (public_of other) c ≡ None → change_of (ask_as other (idle asker) (seen other (idle asker)) asker r f).added ≡ Some c
again other asker r c f form found free =
    ap (λ (g : Form). change_of (ask_as other (idle asker) (seen other (idle asker)) asker r g).added) form
    ∙ ap (λ (o : Result Bound Fault). change_of (publish (public_of other) (idle asker) o).added) found
    ∙ ap (λ (o : Option Fault). change_of (publish_it (idle asker) c o).added) free

module _ (log other : List Entry) (s : Session) (c : Change) (same : public_of log ≡ public_of other) where
  by_line : (o : Result Request Fault) → (ask_read log s o).added ≡ Some (changes c) → (asker : ℕ) × (s.principal ≡ Some asker) × (change_of (ask_read other (idle asker) o).added ≡ Some c)
  by_line (Err f) e = absurd cc
  by_line (Ok r) e = by s.principal refl e where
    by : (o : Option ℕ) → s.principal ≡ o → (ask_by log s o r).added ≡ Some (changes c) → (asker : ℕ) × (s.principal ≡ Some asker) × (change_of (ask_read other (idle asker) (Ok r)).added ≡ Some c)
    by None p k = absurd (no_change c (ask_by log s None r) (new_adds (public_of log) s (form_of r)) k)
    by (Some asker) p k =
        let parts = publishes_alone (length log) (seen log s) (commit_fault log s s.txn) s asker r (form_of r) c k in
        let is = publish_is (seen log s).public s (bound_request (seen log s).public asker r) c parts.1 in
        let now : (seen log s).public ≡ public_of other = ap (λ t. (seen_in log t).public) is.txn ∙ same in
        (asker, p, again other asker r c (form_of r) parts.0 (ap (λ q. bound_request q asker r) (sym now) ∙ is.found) (ap (λ q. refusal q c) (sym now) ∙ is.free))

pub redone_lem : ChangesAreRedone
redone_lem read log other s line c same e =
    let found = by_line log other s c same (read line) e in
    record { asker = found.0; principal = found.1; again = found.2 }

-- ---- records

module _ (read : Reader) (fits : Test) (pass : CommitsPass read fits) where
  -- what an entry's record restores
  one_restored : (before : List Step) (n : ℕ) (line : List ℕ) (rest : List RedoRecord) (o : Option Entry)
      → (session_of (run read opening before) n).is_open ≡ true → (ask read (run read opening before).log (session_of (run read opening before) n) line).added ≡ o
      → restored read fits (run read opening before).log (recorded (session_of (run read opening before) n).principal line o ++ rest) ≡ restored read fits ((run read opening before).log ++ option_to_list o) rest
  one_restored before n line rest None opened e = ap (λ log. restored read fits log rest) (sym (append-nil (run read opening before).log))
  one_restored before n line rest (Some (commits ws)) opened e =
      let log = (run read opening before).log in
      ap (λ (b : Bool). restored_behind read fits (longer log (cond b (Some (commits ws)) None)) rest) (pass before n line ws opened e)
  one_restored before n line rest (Some (changes c)) opened e =
      let st = run read opening before in
      let again = redone_lem read st.log st.log (session_of st n) line c refl e in
      ap (λ (o : Option ℕ). restored read fits st.log (recorded o line (Some (changes c)) ++ rest)) again.principal
      ∙ ap (λ (o : Option Change). restored_behind read fits (longer st.log (entry_if o)) rest) again.again

  step_restored : (before : List Step) (x : Step) (rest : List RedoRecord)
      → restored read fits (run read opening before).log (records_at read (run read opening before) x ++ rest) ≡ restored read fits (next read (run read opening before) x).log rest
  step_restored before opens rest = refl
  step_restored before (refused n) rest = refl
  step_restored before long rest = refl
  step_restored before stray rest = refl
  step_restored before (left_out n) rest = by (session_of st n).is_open where
    st : State
    st = run read opening before

    by : (b : Bool) → restored read fits st.log rest ≡ restored read fits (cond b (with_session st n (closed (session_of st n))) st).log rest
    by true = refl
    by false = refl
  step_restored before (asks n line) rest = by (session_of st n).is_open refl where
    st : State
    st = run read opening before

    o : Outcome
    o = ask read st.log (session_of st n) line

    by : (b : Bool) → (session_of st n).is_open ≡ b
        → restored read fits st.log ((cond b (recorded (session_of st n).principal line o.added) []) ++ rest) ≡ restored read fits (cond b (with_outcome st n o) st).log rest
    by true opened = one_restored before n line rest o.added opened refl
    by false opened = refl

  all_restored : (before steps : List Step)
      → restored read fits (run read opening before).log (records read (run read opening before) steps) ≡ Some (run read (run read opening before) steps).log
  all_restored before [] = refl
  all_restored before (x ∷ steps) =
      let st = run read opening before in
      step_restored before x (records read (next read st x) steps)
      ∙ subst (λ (s : State). restored read fits s.log (records read s steps) ≡ Some (run read s steps).log) (run-append read opening before (x ∷ [])) (all_restored (before ++ x ∷ []) steps)

pub restore_lem : RecordsRestore
restore_lem read fits steps pass = all_restored read fits pass [] steps
