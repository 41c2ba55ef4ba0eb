-- What stays of a desk and of its sessions: the laws of what answers lines.
use Rattle.std.specs.Prelude.{◌≡◌, ◌⊎◌, ℕ, ◌≤◌, Bool, true, false, List, [], ◌∷◌, ◌++◌}
use Rattle.std.proofs.Common.{refl, ◌∙◌, inl, inr}
use mathlib.Core.List.{IsPrefix}
use Rattle.ifdb_turn.specs.Passes.{history}
use Rattle.ifdb_turn.specs.Histories.{AllRight}
use Rattle.ifdb_model.specs.Log.{Entry as LogEntry}
use Rattle.ifdb_history.specs.declared.entry.Entry.{Entry}
use Rattle.ifdb_history.specs.History.{IsRight}
use Rattle.ifdb_history.specs.Lines.{lines_of}
use Rattle.ifdb_history.proofs.Over.{shut_on}
use Rattle.ifdb_loop.specs.Dialogues.{Dialogue, settled}
use Rattle.ifdb_session.specs.declared.records.Records as recorder
use Rattle.ifdb_session.specs.declared.settles.Settles as settler
use Rattle.ifdb_session.specs.Acknowledged.{KnowsKept}
use Rattle.ifdb_session.specs.Behind.{work_in}
use Rattle.ifdb_session.specs.Records.{texts_of}
use Rattle.ifdb_session.specs.Starts.{start_of}
use Rattle.ifdb_session.proofs.Passes.{prefix_itself, prefix-trans}
use Rattle.ifdb_session.proofs.Serving.{bye_later, left_later}
use Rattle.ifdb_session.proofs.Sources.{answered_before, source_among}
use Rattle.ifdb_desk.specs.declared.desk.Desk.{Desk}
use Rattle.ifdb_desk.specs.declared.place.Place.{Place}
use Rattle.ifdb_desk.specs.Desks.{GoesOn, KnowsAllKept, Says, SeesOver}
use Rattle.ifdb_desk.specs.Kept.{IsKeptFor, WasTold}
use Rattle.ifdb_desk.specs.Overs.{IsClosedSo, IsOver}

-- in a longer history in which the session asked no more it is closed as it was
closed_later : (n : ℕ) (h k : List Entry) (lines : List (List ℕ)) (is_open : Bool) → IsPrefix h k → IsClosedSo n h lines is_open → IsClosedSo n k lines is_open
closed_later n h k lines true front left = left_later n h k left front
closed_later n h k lines false front bye = bye_later n h k lines lines bye front refl

-- ---- in a longer history, where no less is kept

module _ (first : List LogEntry) (IsKept StillKept : List (List ℕ) → Type 0) (stays : (texts : List (List ℕ)) → IsKept texts → StillKept texts) (n : ℕ) (h k : List Entry) (front : IsPrefix h k) where
  -- what is kept for a session that asked no more
  pub kept_later : lines_of n k ≡ lines_of n h → (bytes : List ℕ) → IsKeptFor first IsKept h n bytes → IsKeptFor first StillKept k n bytes
  kept_later same bytes kept before e begins so = by (kept before e (answered_before n h k front same before e begins so) so) where
    by : IsKept (texts_of first (before ++ e ∷ [])) ⊎ WasTold first before n (work_in e.kind) bytes → StillKept (texts_of first (before ++ e ∷ [])) ⊎ WasTold first before n (work_in e.kind) bytes
    by (inl is) = inl (stays (texts_of first (before ++ e ∷ [])) is)
    by (inr told) = inr told

  -- a session that is over
  pub over_later : AllRight (IsRight (start_of first)) k → (d : Dialogue) → IsOver first IsKept h n d → IsOver first StillKept k n d
  over_later right d over =
      let still = shut_on (start_of first) n h k over.shut front right in
      record {
        shut = still.0;
        closed = closed_later n h k d.lines d.is_open front over.closed;
        lines = still.1 ∙ over.lines;
        texts = still.2 d.texts over.texts;
        front = over.front;
        kept = kept_later still.1 d.kept over.kept;
      }

-- ---- as a desk goes on

module _ {R Q S : Type 0} (recorders : recorder.Ghosts Q) (settlers : settler.Ghosts S Q) where
  pub goes_itself : ((s : S) → settlers.goes_on s s) → (s : Desk R Q S) → GoesOn recorders settlers s s
  goes_itself itself s = record { hall = refl; limit = refl; begins = prefix_itself (history s.pass); right = λ right. right; shares = refl; keeper = itself s.keeper; held = λ n has. has }

  pub goes_further : ((r s t : S) → settlers.goes_on r s → settlers.goes_on s t → settlers.goes_on r t) → (r s t : Desk R Q S)
      → GoesOn recorders settlers r s → GoesOn recorders settlers s t → GoesOn recorders settlers r t
  goes_further further r s t p q = record {
    hall = q.hall ∙ p.hall;
    limit = q.limit ∙ p.limit;
    begins = prefix-trans (history r.pass) (history s.pass) (history t.pass) p.begins q.begins;
    right = λ right. q.right (p.right right);
    shares = q.shares ∙ p.shares;
    keeper = further r.keeper s.keeper t.keeper p.keeper q.keeper;
    held = λ n has. q.held n (p.held n has);
  }

  pub stays_over : ((s t : S) (n : ℕ) → settlers.goes_on s t → settlers.is_kept s n → settlers.is_kept t n) → (s t : Desk R Q S) (n : ℕ) (d : Dialogue)
      → GoesOn recorders settlers s t → SeesOver recorders settlers s n d → SeesOver recorders settlers t n d
  stays_over stays s t n d goes over =
      let right = goes.right over.0 in (
        right,
        over_later recorders.first (KnowsKept recorders settlers s.keeper) (KnowsKept recorders settlers t.keeper) (λ texts. stays s.keeper t.keeper (recorders.count_of texts) goes.keeper) n (history s.pass) (history t.pass) goes.begins right d over.1,
      )

  -- where all is kept that it answered from, so it is for each session
  pub keeps_all : ((s : S) (m n : ℕ) → m ≤ n → settlers.is_kept s n → settlers.is_kept s m) → (s : Desk R Q S) (place : Place) (d : Dialogue)
      → KnowsAllKept recorders settlers s → Says recorders settlers s place d → Says recorders settlers s place (settled d)
  keeps_all fewer s place d all says = record {
    same = says.same;
    left = says.left;
    lines = says.lines;
    texts = says.texts;
    marked = says.marked;
    front = prefix_itself d.texts;
    kept = λ before e begins so. inl (fewer s.keeper (recorders.count_of (texts_of recorders.first (before ++ e ∷ []))) s.mark
        (source_among recorders.first (λ (source : List (List ℕ)). recorders.count_of source ≤ s.mark) place.seat.number (history s.pass) before e begins so says.marked) all);
  }
