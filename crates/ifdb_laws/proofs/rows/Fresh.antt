-- What a line adds to the log is fresh: beside a slot that it brings to live, each row of its key at a lower label is written.
use Rattle.std.proofs.Common.{◌≡◌, ℕ, Bool, true, false, List, [], ◌∷◌, ◌++◌, length, take, drop, refl, sym, ap, ◌∙◌, arith, cond, Some, None, Ok, Option, Result}
use Rattle.std.specs.Prelude.{option_to_list}
use Rattle.std.specs.List.{list_any, list_all}
use Rattle.std.proofs.lemmas.Bool.Decides.{nat_tests}
use Rattle.std.proofs.lemmas.List.{take-append-drop}
use Rattle.ifdb_label.specs.Tags.{MadeTag, are_made, AreWellFormed}
use Rattle.ifdb_row.specs.declared.slot.Slot.{Slot}
use Rattle.ifdb_row.specs.declared.row.Row.{Row}
use Rattle.ifdb_row.specs.declared.write.Write.{Write}
use Rattle.ifdb_row.specs.Writes.{is_fitting, are_fitting, slots_of}
use Rattle.ifdb_row.specs.Content.{after, content_from}
use Rattle.ifdb_row.specs.Sides.{are_on}
use Rattle.ifdb_row.specs.Verdict.{commit_label, conflict, broken_reference, still_referenced, go, is_above, meets, breaks, leaves, verdict}
use Rattle.ifdb_row.proofs.SlotOrder.{slot_same}
use Rattle.ifdb_row.proofs.KeyLaws.{are_fresh, merged_fresh, slots_written, commit_fresh}
use Rattle.ifdb_bound.specs.declared.request.Bound.{Bound}
use Rattle.ifdb_syntax.specs.declared.request.Request.{Request}
use Rattle.ifdb_wire.specs.declared.fault.Fault.{Fault}
use Rattle.ifdb_catalog.specs.Public.{tags_of}
use Rattle.ifdb_model.specs.Log.{Entry, changes, commits, all_tags, commits_of, content_of, written_of}
use Rattle.ifdb_model.specs.Session.{Txn, Session, seen_in, seen}
use Rattle.ifdb_model.specs.Writes.{Written, writes_of}
use Rattle.ifdb_model.specs.Step.{Outcome, judged}
use Rattle.ifdb_laws.proofs.Shapes.{Shape, stayed, greeted_as, relabelled_to, begun, ended, published, joined, wrote, done}
use Rattle.ifdb_laws.proofs.Logs.{all_commits, all_commits_append, commits_take, txn_all, is_made_slot, content_all, new_tags, tags_split, front_formed}
use Rattle.ifdb_laws.proofs.rows.Keys.{fresh_written, writes_fresh}
use Rattle.ifdb_model.proofs.LogLaws.{content_from-append}

-- own writes are fresh over the content at their BEGIN
abbrev pub txn_fresh : List Entry → Option Txn → Bool
txn_fresh log None = true
txn_fresh log (Some x) = are_fresh (all_tags (take x.begin log)) (content_of (take x.begin log)) x.own

abbrev pub adds_fresh : List Entry → Option Entry → Bool
adds_fresh log None = true
adds_fresh log (Some (changes c)) = true
adds_fresh log (Some (commits ws)) = are_fresh (all_tags log) (content_of log) ws

-- each front of the log wrote rows at labels that were made in it
pub record Fronts (log : List Entry) : Type 0 where
  pub formed : AreWellFormed (all_tags log)
  pub fits : all_commits are_fitting log ≡ true
  pub made : (b : ℕ) → all_commits (are_on (is_made_slot (length (all_tags (take b log))))) (take b log) ≡ true

-- the rows at a BEGIN are at labels that were made then
row_made : (n : ℕ) (s : Slot) (o : Option Row) → is_made_slot n s ≡ true → is_fitting s o ≡ true → list_all (λ (r : Row). are_made n r.slot.label) (option_to_list o) ≡ true
row_made n s None e f = refl
row_made n s (Some r) e f = let x = ap (is_made_slot n) (slot_same r.slot s f) in grind (arith, nat_tests)

writes_made : (n : ℕ) (ws : List Write) → are_on (is_made_slot n) ws ≡ true → are_fitting ws ≡ true → list_all (λ (w : Write). list_all (λ (r : Row). are_made n r.slot.label) (option_to_list w.row)) ws ≡ true
writes_made n [] e f = refl
writes_made n (w ∷ ws) e f = grind (arith, nat_tests, writes_made n ws, row_made n w.slot w.row)

commits_made : (n : ℕ) (log : List Entry) → all_commits (are_on (is_made_slot n)) log ≡ true → all_commits are_fitting log ≡ true
    → all_commits (λ ws. list_all (λ (w : Write). list_all (λ (r : Row). are_made n r.slot.label) (option_to_list w.row)) ws) log ≡ true
commits_made n [] e f = refl
commits_made n (changes c ∷ log) e f = commits_made n log e f
commits_made n (commits ws ∷ log) e f = grind (arith, nat_tests, commits_made n log, writes_made n ws)

rows_made : (log : List Entry) → Fronts log → (b : ℕ) → list_all (λ (r : Row). are_made (length (all_tags (take b log))) r.slot.label) (content_of (take b log)) ≡ true
rows_made log k b = content_all (λ (r : Row). are_made (length (all_tags (take b log))) r.slot.label) [] (take b log)
    (commits_made (length (all_tags (take b log))) (take b log) (k.made b) (commits_take are_fitting b log k.fits)) refl

-- ---- COMMIT

no_conflict : (tags : List MadeTag) (before : List Row) (later : List Slot) (ws : List Write) (label : List ℕ) → verdict tags before later ws label ≡ go → list_any (meets tags ws) later ≡ false
no_conflict tags before later ws label h = by (list_any (is_above tags label) ws) (list_any (meets tags ws) later) (breaks (after before ws) ws) (leaves (after before ws) ws) refl h where
  by : (x y z u : Bool) → list_any (meets tags ws) later ≡ y → cond x commit_label (cond y conflict (cond z broken_reference (cond u still_referenced go))) ≡ go → list_any (meets tags ws) later ≡ false
  by true y z u e k = cc
  by false true z u e k = cc
  by false false z u e k = e

content_split : (b : ℕ) (log : List Entry) → content_from (content_of (take b log)) (commits_of (drop b log)) ≡ content_of log
content_split b log = sym (content_from-append [] (take b log) (drop b log)) ∙ ap content_of (take-append-drop b log)

commits_drop : (q : List Write → Bool) (b : ℕ) (log : List Entry) → all_commits q log ≡ true → all_commits q (drop b log) ≡ true
commits_drop q b log f =
    let one = all_commits_append q (take b log) (drop b log) in
    let two = ap (all_commits q) (take-append-drop b log) in
    grind (arith, nat_tests, one, two)

written_is : (log : List Entry) → written_of log ≡ slots_written (commits_of log)
written_is [] = refl
written_is (changes c ∷ log) = written_is log
written_is (commits ws ∷ log) = ap (λ x. slots_of ws ++ x) (written_is log)

gone_fresh : (log : List Entry) (s : Session) (x : Txn) → Fronts log → txn_fresh log (Some x) ≡ true → judged log s x ≡ go → are_fresh (all_tags log) (content_of log) x.own ≡ true
gone_fresh log s x k h e =
    let older = all_tags (take x.begin log) in
    let more = new_tags (drop x.begin log) in
    let same : all_tags log ≡ older ++ more = tags_split x.begin log in
    let none : list_any (meets (older ++ more) x.own) (slots_written (commits_of (drop x.begin log))) ≡ false =
    (λ i. list_any (meets (sym same i) x.own) (sym (written_is (drop x.begin log)) i)) ∙ no_conflict (all_tags log) (content_of log) (written_of (drop x.begin log)) x.own s.label e in
    let formed : AreWellFormed (older ++ more) = rw same at k.formed in
    (λ i. are_fresh (same i) (sym (content_split x.begin log) i) x.own)
    ∙ commit_fresh older more (front_formed older more formed) (content_of (take x.begin log)) (commits_of (drop x.begin log)) x.own (commits_drop are_fitting x.begin log k.fits) none (rows_made log k x.begin) h

-- ---- by the shape of a line

module _ (log : List Entry) (s : Session) (line : Result Request Fault) (k : Fronts log) (f : txn_all are_fitting s.txn ≡ true) (h : txn_fresh log s.txn ≡ true) where
  seen_fresh : (o : Option Txn) (asker : ℕ) (b : Bound) (w : Written) → s.txn ≡ o → writes_of (seen log s).public asker (seen log s).rows s.label b ≡ Ok w
      → are_fresh (tags_of (seen_in log o).public) (seen_in log o).rows w.writes ≡ true
  seen_fresh o asker b w t e =
      (λ i. are_fresh (tags_of (seen_in log (sym t i)).public) (seen_in log (sym t i)).rows w.writes)
      ∙ ap (fresh_written (tags_of (seen log s).public) (seen log s).rows) (sym e) ∙ writes_fresh (seen log s).public asker (seen log s).rows s.label b

  pub outcome_fresh : (o : Outcome) → Shape log s line o → (txn_fresh log o.session.txn ≡ true) × (adds_fresh log o.added ≡ true)
  outcome_fresh o (stayed r) = (h, refl)
  outcome_fresh o (greeted_as n g lt) = (h, refl)
  outcome_fresh o (relabelled_to asker r label v x y) = (h, refl)
  outcome_fresh o (begun t) = (refl, refl)
  outcome_fresh o (ended b r why) = (refl, refl)
  outcome_fresh o (published asker r c line_is t i p z) = (h, refl)
  outcome_fresh o (joined asker r b x w a t e) = (
    merged_fresh (all_tags (take x.begin log)) (content_of (take x.begin log)) x.own w.writes (ap (txn_all are_fitting) (sym t) ∙ f) (ap (txn_fresh log) (sym t) ∙ h) (seen_fresh (Some x) asker b w t e),
    refl,
  )
  outcome_fresh o (wrote asker r b w a t e d) = (h, seen_fresh None asker b w t e)
  outcome_fresh o (done x t j) = (refl, gone_fresh log s x k (ap (txn_fresh log) (sym t) ∙ h) j)
