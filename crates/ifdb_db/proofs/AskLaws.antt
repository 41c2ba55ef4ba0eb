-- What a client is answered is what the machine answers its session.
use Rattle.std.proofs.Common.{◌≡◌, ℕ, ◌≤◌, List, [], drop, ◌∙◌, refl, sym, ap, Option, Some, None, Result, Ok, Err}
use Rattle.ifdb_label.specs.Tags.{MadeTag}
use Rattle.ifdb_row.specs.Content.{after, content_from}
use Rattle.ifdb_row.specs.Verdict.{Verdict, verdict}
use Rattle.ifdb_store.specs.Kept.{StandsFor}
use Rattle.ifdb_commit.proofs.LogLemmas.{judges_a_log, writes_stamped}
use Rattle.ifdb_syntax.specs.declared.request.Request.{Request}
use Rattle.ifdb_wire.specs.declared.fault.Fault.{Fault}
use Rattle.ifdb_catalog.specs.Public.{tags_of}
use Rattle.ifdb_model.specs.Log.{stamped_from, content_of, all_tags, written_of}
use Rattle.ifdb_model.specs.Session.{Session, Seen, seen_in}
use Rattle.ifdb_model.specs.Step.{form_of, ask_read, ask_by, answered_as, answered_new, judged, commit_fault, verdict_fault}
use Rattle.ifdb_model.specs.Run.{State}
use Rattle.ifdb_db.specs.Answer.{answered, answered_by, fault_of}
use Rattle.ifdb_db.specs.Client.{Open, Client, session_at, txn_at, seen_by}
use Rattle.ifdb_db.specs.Desk.{Desk, oldest}
use Rattle.ifdb_db.specs.Room.{IsOf, IsOver}

module _ (d : Desk) (st : State) (w : IsOf d st) where
  -- what it sees
  seen_same : (t : Option Open) → IsOver st.log t → seen_in st.log (txn_at t) ≡ seen_by d.seen t
  seen_same None o = sym w.seen
  seen_same (Some x) o = ap (λ (z : Seen). record { public = z.public; rows = after z.rows x.own }) (sym o.1)

  -- the store stands for the log
  stands : StandsFor (record { rows = d.seen.rows; commits = d.commits }) (stamped_from 0 st.log) (oldest d)
  stands = record {
    rows = ap (λ (z : Seen). z.rows) w.seen ∙ ap (content_from []) (sym (writes_stamped 0 st.log));
    commits = w.commits;
  }

  -- a COMMIT is judged alike
  judged_same : (l : List ℕ) (x : Open) (s : Session) → s.label ≡ l → oldest d ≤ x.begin
      → verdict_fault (judged st.log s (record { begin = x.begin; own = x.own })) ≡ fault_of d l (Some x)
  judged_same l x s e le =
      let tags : all_tags st.log ≡ tags_of d.seen.public = ap (λ (z : Seen). tags_of z.public) (sym w.seen) in
      let over = judges_a_log (tags_of d.seen.public) (record { rows = d.seen.rows; commits = d.commits }) st.log (oldest d) x.begin x.own l stands le in
      ap verdict_fault ((λ i. judged_with (tags i) (e i)) ∙ sym over) where
        judged_with : List MadeTag → List ℕ → Verdict
        judged_with tags label = verdict tags (content_of st.log) (written_of (drop x.begin st.log)) x.own label

  -- and its refusal is known
  refuses_so : (c : Client) → ((x : Open) → c.txn ≡ Some x → oldest d ≤ x.begin) → commit_fault st.log (session_at c) (session_at c).txn ≡ fault_of d c.label c.txn
  refuses_so c le = by c.txn refl where
    by : (t : Option Open) → c.txn ≡ t → commit_fault st.log (session_at c) (txn_at t) ≡ fault_of d c.label t
    by None e = refl
    by (Some x) e = judged_same c.label x (session_at c) refl (le x e)

  module _ (c : Client) (o : IsOver st.log c.txn) (le : (x : Open) → c.txn ≡ Some x → oldest d ≤ x.begin) where
    by_same : (p : Option ℕ) (r : Request) → ask_by st.log (session_at c) p r ≡ answered_by d c p r
    by_same None r = ap (λ (z : Seen). answered_new z.public (session_at c) (form_of r)) (sym w.seen)
    by_same (Some asker) r = λ i. answered_as (sym w.count i) (seen_same c.txn o i) (refuses_so c le i) (session_at c) asker r (form_of r)

    -- over each state that the desk stands for
    pub read_same : (found : Result Request Fault) → ask_read st.log (session_at c) found ≡ answered d c found
    read_same (Err f) = refl
    read_same (Ok r) = by_same c.principal r
