-- A room goes along with the log that a restart restores.
use Rattle.std.proofs.Common.{◌≡◌, List, [], ◌∷◌, ◌++◌, length, map, refl, sym, ap, subst, ◌∙◌, arith, Option, Some, None, Result, Ok, Err}
use Rattle.std.specs.Prelude.{All, IsSome, OnOk, if◌then◌else◌}
use Rattle.std.proofs.lemmas.Bool.{false≢true}
use Rattle.std.proofs.lemmas.List.Elements.{All-nil}
use Rattle.ifdb_redo.specs.declared.record.RedoRecord.{RedoRecord}
use Rattle.ifdb_redo.specs.declared.record.RedoRecord.TheVariants as redo
use Rattle.ifdb_wire.specs.declared.reply.Reply.TheVariants as reply
use Rattle.ifdb_model.specs.Log.{Entry, changes, commits}
use Rattle.ifdb_model.specs.Session.{Seen, Session}
use Rattle.ifdb_model.specs.Step.{Outcome, adds}
use Rattle.ifdb_restore.specs.Redone.{change_of, entry_if, installed, longer, restored}
use Rattle.ifdb_restore.specs.Passing.{commit_fits}
use Rattle.ifdb_db.specs.Client.{Client, session_at}
use Rattle.ifdb_db.specs.Desk.{Desk, settled, with_entry, moved}
use Rattle.ifdb_db.specs.Kept.{AreHeld, IsHeld, IsSound}
use Rattle.ifdb_db.specs.Room.{Hall, IsOf, IsOver, IsSoundRoom, StandsFor}
use Rattle.ifdb_db.specs.Reading.{read_line}
use Rattle.ifdb_db.specs.Redoing.{closed_state, entry_at, idle_client, writes_fit, IsMadeAgain, IsUnfit}
use Rattle.ifdb_db.proofs.DeskLaws.{moves}
use Rattle.ifdb_db.proofs.AskLaws.{read_same}

same_desk : (d : Desk) (x : Entry) → moved (session_at (idle_client 0)) (adds (session_at (idle_client 0)) x reply.Done) d ≡ settled (with_entry d (Some x))
same_desk d (changes c) = refl
same_desk d (commits ws) = refl

-- one entry more, as one session outside transactions adds it
goes_on : (d : Desk) (log : List Entry) (x : Entry) → IsSound d → IsOf d (closed_state log) → IsOf (settled (with_entry d (Some x))) (closed_state (log ++ x ∷ []))
goes_on d log x sound w =
    let s : Session = session_at (idle_client 0) in
    let one : IsOf d (record { log = log; sessions = s ∷ [] }) = record { seen = w.seen; commits = w.commits; count = w.count; begins = w.begins } in
    let next = moves d (record { log = log; sessions = s ∷ [] }) 0 (adds s x reply.Done) one sound (omega arith) tt in
    let there : IsOf (moved s (adds s x reply.Done) d) (closed_state (log ++ x ∷ [])) = record { seen = next.seen; commits = next.commits; count = next.count; begins = next.begins } in
    subst (λ (e : Desk). IsOf e (closed_state (log ++ x ∷ []))) (same_desk d x) there

same_entry : (d : Desk) (log : List Entry) → IsOf d (closed_state log) → (r : RedoRecord) → entry_at d r ≡ installed read_line commit_fits log r
same_entry d log w (redo.Change asker line) =
    ap (λ (o : Outcome). entry_if (change_of o.added)) (sym (read_same d (closed_state log) w (idle_client asker) tt (λ x k. absurd cc) (read_line line)))
same_entry d log w (redo.Commit ws) = ap (λ (x : Seen). if writes_fit x ws then Some (commits ws) else None) w.seen

-- ---- rooms

-- each desk holds nobody
pub nobody_held : (d : Desk) (clients : List Client) → length clients ≡ 0 → AreHeld d clients
nobody_held d [] none = All-nil (IsHeld d)
nobody_held d (c ∷ clients) none = absurd (omega arith)

nobody_over : (log : List Entry) (clients : List Client) → length clients ≡ 0 → All (λ (c : Client). IsOver log c.txn) clients
nobody_over log [] none = All-nil (λ (c : Client). IsOver log c.txn)
nobody_over log (c ∷ clients) none = absurd (omega arith)

pub made_again : (h k : Hall) (r : RedoRecord) → IsSoundRoom h → length h.clients ≡ 0 → k.desk ≡ settled (with_entry h.desk (entry_at h.desk r)) → IsSome (entry_at h.desk r)
    → k.clients ≡ h.clients → IsMadeAgain h k r
made_again h k r sound nobody desk some same log w = by (entry_at h.desk r) refl where
  none : length k.clients ≡ 0
  none = ap (λ (cs : List Client). length cs) same ∙ nobody

  by : (o : Option Entry) → entry_at h.desk r ≡ o → (more : List Entry) × (restored read_line commit_fits log (r ∷ []) ≡ Some more) × StandsFor k (closed_state more)
  by None e = absurd (false≢true (subst (λ (o : Option Entry). IsSome o) e some))
  by (Some x) e =
      let is : k.desk ≡ settled (with_entry h.desk (Some x)) = desk ∙ ap (λ (o : Option Entry). settled (with_entry h.desk o)) e in (
        log ++ x ∷ [],
        ap (longer log) (sym (same_entry h.desk log w.desk r) ∙ e),
        record {
          desk = subst (λ (d : Desk). IsOf d (closed_state (log ++ x ∷ []))) (sym is) (goes_on h.desk log x sound.desk w.desk);
          sessions = ap (λ (cs : List Client). map session_at cs) same ∙ w.sessions;
          over = nobody_over (log ++ x ∷ []) k.clients none;
        },
      )

pub not_made_again : (h : Hall) (r : RedoRecord) → entry_at h.desk r ≡ None → IsUnfit h r
not_made_again h r none log w = ap (longer log) (sym (same_entry h.desk log w.desk r) ∙ none)

-- the same where it answered so, whatever it answered
pub made_again_if : {T E : Type 0} (h g k : Hall) (r : RedoRecord) (o : Result T E) → g ≡ h → IsSoundRoom g → length g.clients ≡ 0
    → OnOk o (k.desk ≡ settled (with_entry g.desk (entry_at g.desk r))) → OnOk o (IsSome (entry_at g.desk r)) → k.clients ≡ g.clients → OnOk o (IsMadeAgain h k r)
made_again_if h g k r (Ok v) e sound nobody desk some same = subst (λ (x : Hall). IsMadeAgain x k r) e (made_again g k r sound nobody desk some same)
made_again_if h g k r (Err f) e sound nobody desk some same = tt
