-- What the work of a lent session comes to: in states, in rooms, and in longer histories.
use Rattle.std.proofs.Common.{◌≡◌, ℕ, Bool, true, false, List, [], ◌∷◌, ◌++◌, ◌∙◌, refl, sym, ap, subst, cond, Option, Some, None, inl, inr}
use Rattle.std.specs.Prelude.{◌==◌, not, option_to_list}
use Rattle.std.proofs.lemmas.List.{append_assoc, append-nil, map-append}
use mathlib.Core.List.{IsPrefix}
use Rattle.ifdb_wire.specs.declared.reply.Reply.{Reply}
use Rattle.ifdb_wire.specs.Text.{IsUnbounded, memory_text, reply_text}
use Rattle.ifdb_model.specs.Log.{Entry as LogEntry}
use Rattle.ifdb_model.specs.Session.{Session, in_txn}
use Rattle.ifdb_model.specs.Step.{Outcome, tells, ask}
use Rattle.ifdb_model.specs.Run.{State, Step, session_of, outcome_of, with_outcome, asks, refused, next, run}
use Rattle.ifdb_redo.specs.declared.record.RedoRecord.{RedoRecord}
use Rattle.ifdb_restore.specs.Redone.{records}
use Rattle.ifdb_db.specs.Client.{Open, Client, session_at, txn_at}
use Rattle.ifdb_db.specs.Lent.{IsLabelInside, IsLent, GoesOn, Answers, with_client}
use Rattle.ifdb_db.specs.Looks.{Looking, Shows}
use Rattle.ifdb_db.specs.Reading.{read_line}
use Rattle.ifdb_db.specs.Room.{Hall, IsOver, StandsFor, client_in}
use Rattle.ifdb_db.proofs.Lending.{goes_itself, goes_further, over_further, put_there, put_twice, put_itself, stands_answered, client_is_that}
use Rattle.ifdb_db.proofs.RoomLaws.{at_open, over_at, over_more, same_session}
use Rattle.ifdb_history.specs.declared.entry.Entry.{Entry}
use Rattle.ifdb_history.specs.declared.entry.Note.{Note}
use Rattle.ifdb_history.specs.History.{note_step, work_steps, after, IsWork}
use Rattle.ifdb_history.specs.Lines.{work_lines, lines_of, told_in, lines_with, IsTold, IsToldWith}
use Rattle.ifdb_history.proofs.Flat.{told_in-append}
use Rattle.ifdb_session.specs.Seats.{work_of, IsToldIn, IsToldAs, IsWorked, Works, WorksIf, IsLentIf, IsShownAs}
use Rattle.ifdb_session.specs.declared.seat.Seat.{Seat}
use Rattle.ifdb_session.specs.Turns.{with_lent, MayBeBack, IsLentBy}
use Rattle.ifdb_session.proofs.Counting.{session_after}
use Rattle.ifdb_session.proofs.Recording.{quiet}
use Rattle.ifdb_session.specs.Starts.{start_of}

-- ---- in states

-- the state's session is this client, in a transaction over what its log was
pub record IsHere (st : State) (n : ℕ) (c : Client) : Type 0 where
  pub session : session_of st n ≡ session_at c
  pub over : IsOver st.log c.txn
  pub lent : IsLent c

is_busy : (label : List ℕ) (t : Option Open) → IsLabelInside label t → in_txn (txn_at t) ≡ true
is_busy label None k = absurd k
is_busy label (Some x) k = refl

busy_here : (st : State) (n : ℕ) (c : Client) → IsHere st n c → in_txn (session_of st n).txn ≡ true
busy_here st n c at = ap (λ (s : Session). in_txn s.txn) at.session ∙ is_busy c.label c.txn at.lent.label

-- what one step of the session leaves: it is there still, the log is the same, and it was told this
pub record Leaves (st : State) (n : ℕ) (x : Step) (e : Client) (text : List ℕ) : Type 0 where
  pub here : IsHere (next read_line st x) n e
  pub log : (next read_line st x).log ≡ st.log
  pub told : told_in read_line n st (x ∷ []) ≡ text

to_itself : (n : ℕ) (text : List ℕ) → cond (n == n) text [] ++ [] ≡ text
to_itself n text = ap (λ b. cond b text [] ++ []) (Rattle.std.proofs.Common.eq-eqb n n refl) ∙ append-nil text

line_leaves : (st : State) (n : ℕ) (line : List ℕ) (c e : Client) (r : Reply) → IsHere st n c → Answers line c e r
    → Leaves st n (asks n line) e (reply_text None r)
line_leaves st n line c e r at a = record {
  here = record {
    session = session_after read_line st n line ∙ ap (λ (o : Outcome). o.session) outcome;
    over = subst (λ (l : List LogEntry). IsOver l e.txn) (sym log) (over_further st.log c.txn e.txn a.goes_on at.over);
    lent = a.lent;
  };
  log = log;
  told = to_itself n (reply_text None (outcome_of read_line st n line).reply) ∙ ap (λ (o : Outcome). reply_text None o.reply) outcome;
} where
  opened : (session_of st n).is_open ≡ true
  opened = ap (λ (s : Session). s.is_open) at.session ∙ at.lent.is_open

  asked : ask read_line st.log (session_of st n) line ≡ tells (session_at e) r
  asked = ap (λ (s : Session). ask read_line st.log s line) at.session ∙ a.told st.log at.over

  outcome : outcome_of read_line st n line ≡ tells (session_at e) r
  outcome = let there : outcome_of read_line st n line ≡ ask read_line st.log (session_of st n) line = rw opened refl in there ∙ asked

  log : (next read_line st (asks n line)).log ≡ st.log
  log =
      let stepped : next read_line st (asks n line) ≡ with_outcome st n (ask read_line st.log (session_of st n) line) = rw opened refl in
      ap (λ (z : State). z.log) stepped ∙ ap (λ (o : Outcome). st.log ++ option_to_list o.added) asked ∙ append-nil st.log

note_leaves : (st : State) (n : ℕ) (w : Note) (c e : Client) (text : List ℕ) → IsHere st n c → IsToldAs w.is_refused w.line c e text → Leaves st n (note_step n w) e text
note_leaves st n w c e text at t = by w.is_refused t where
  by : (b : Bool) → IsToldAs b w.line c e text → Leaves st n (cond b (refused n) (asks n w.line)) e text
  by true t = record { here = subst (IsHere st n) (sym t.0) at; log = refl; told = to_itself n (memory_text None) ∙ sym t.1 }
  by false t = subst (Leaves st n (asks n w.line) e) (sym t.2) (line_leaves st n w.line c e t.0 at t.1)

-- an answer that is told, or for which there is no memory
pub told_as : (line : List ℕ) (c e : Client) (r : Reply) (text : List ℕ) (is_told : Bool) → Answers line c e r → (is_told ≡ true → text ≡ reply_text None r)
    → (is_told ≡ false → text ≡ memory_text None) → (is_told ≡ false → IsUnbounded r) → IsToldAs (not is_told) line c e text
told_as line c e r text true a so none long = (r, a, so refl)
told_as line c e r text false a so none long = (a.still (long refl), none refl)

-- so it is with a look's
pub shown_as : (x : Looking) (r : Reply) (text : List ℕ) (is_told : Bool) → Shows x r → (is_told ≡ true → text ≡ reply_text None r) → (is_told ≡ false → text ≡ memory_text None) → IsShownAs x text
shown_as x r text true s so none = inl (r, s, so refl)
shown_as x r text false s so none = inr (none refl)

-- what it is told by all of its work
abbrev pub texts_told : (work : List Note) (c e : Client) → IsWorked work c e → List ℕ
texts_told [] c e k = []
texts_told (w ∷ work) c e k = k.1 ++ texts_told work k.0 e k.3

module _ (n : ℕ) where
  pub work_here : (st : State) (work : List Note) (c e : Client) → IsHere st n c → IsWorked work c e → IsHere (run read_line st (work_steps n work)) n e
  work_here st [] c e at k = subst (IsHere st n) (sym k) at
  work_here st (w ∷ work) c e at k = let one = note_leaves st n w c k.0 k.1 at k.2 in work_here (next read_line st (note_step n w)) work k.0 e one.here k.3

  pub work_log : (st : State) (work : List Note) (c e : Client) → IsHere st n c → IsWorked work c e → (run read_line st (work_steps n work)).log ≡ st.log
  work_log st [] c e at k = refl
  work_log st (w ∷ work) c e at k =
      let one = note_leaves st n w c k.0 k.1 at k.2 in work_log (next read_line st (note_step n w)) work k.0 e one.here k.3 ∙ one.log

  pub work_records : (st : State) (work : List Note) (c e : Client) → IsHere st n c → IsWorked work c e → records read_line st (work_steps n work) ≡ []
  work_records st [] c e at k = refl
  work_records st (w ∷ work) c e at k =
      let one = note_leaves st n w c k.0 k.1 at k.2 in
      ap (λ (rs : List RedoRecord). rs ++ records read_line (next read_line st (note_step n w)) (work_steps n work)) (quiet read_line st (note_step n w) one.log)
      ∙ work_records (next read_line st (note_step n w)) work k.0 e one.here k.3

  pub work_told : (st : State) (work : List Note) (c e : Client) → IsHere st n c → (k : IsWorked work c e) → told_in read_line n st (work_steps n work) ≡ texts_told work c e k
  work_told st [] c e at k = refl
  work_told st (w ∷ work) c e at k =
      let one = note_leaves st n w c k.0 k.1 at k.2 in
      told_in-append read_line n st (note_step n w ∷ []) (work_steps n work)
      ∙ ap (λ bs. bs ++ told_in read_line n (next read_line st (note_step n w)) (work_steps n work)) one.told
      ∙ ap (λ bs. k.1 ++ bs) (work_told (next read_line st (note_step n w)) work k.0 e one.here k.3)

  pub work_is : (st : State) (work : List Note) (c e : Client) → IsHere st n c → IsWorked work c e → IsWork read_line st n work
  work_is st [] c e at k = tt
  work_is st (w ∷ work) c e at k =
      let one = note_leaves st n w c k.0 k.1 at k.2 in
      (busy_here st n c at, busy_here (next read_line st (note_step n w)) n k.0 one.here, work_is (next read_line st (note_step n w)) work k.0 e one.here k.3)

-- ---- in clients

told_goes : (b : Bool) (line : List ℕ) (c e : Client) (text : List ℕ) → IsLent c → IsToldAs b line c e text → GoesOn c.txn e.txn × IsLent e
told_goes true line c e text k t = subst (λ (z : Client). GoesOn c.txn z.txn × IsLent z) (sym t.0) (goes_itself c.label c.txn k.label, k)
told_goes false line c e text k t = (t.1.goes_on, t.1.lent)

pub work_goes : (work : List Note) (c e : Client) → IsLent c → IsWorked work c e → GoesOn c.txn e.txn × IsLent e
work_goes [] c e k w = subst (λ (z : Client). GoesOn c.txn z.txn × IsLent z) (sym w) (goes_itself c.label c.txn k.label, k)
work_goes (x ∷ work) c e k w =
    let one = told_goes x.is_refused x.line c w.0 w.1 k w.2 in
    let more = work_goes work w.0 e one.1 w.3 in
    (goes_further c.txn w.0.txn e.txn one.0 more.0, more.1)

pub worked_more : (work : List Note) (x : Note) (c d e : Client) (text : List ℕ) → IsWorked work c d → IsToldAs x.is_refused x.line d e text → IsWorked (work ++ x ∷ []) c e
worked_more [] x c d e text k t = (e, text, subst (λ (z : Client). IsToldAs x.is_refused x.line z e text) k t, refl)
worked_more (w ∷ work) x c d e text k t = (k.0, k.1, k.2, worked_more work x k.0 d e text k.3 t)

-- ---- in rooms

-- work that leads a client to e does so in each room where it stands
abbrev LeadsTo : ℕ → List Note → Client → Type 0
LeadsTo n work e = (g : Hall) (s : State) (d : Client) → StandsFor g s → client_in g n ≡ d → IsLent d → IsWorked work d e → StandsFor (with_client g n e) (run read_line s (work_steps n work))

pub worked_stands : (h : Hall) (st : State) (n : ℕ) (work : List Note) (c e : Client) → StandsFor h st → client_in h n ≡ c → IsLent c → IsWorked work c e
    → StandsFor (with_client h n e) (run read_line st (work_steps n work))
worked_stands h st n [] c e w i k j =
    let opened : (client_in h n).is_open ≡ true = ap (λ (z : Client). z.is_open) i ∙ k.is_open in
    let same : e ≡ client_in h n = j ∙ sym i in
    subst (λ (z : Hall). StandsFor z st) (sym (ap (with_client h n) same ∙ put_itself h n opened)) w
worked_stands h st n (x ∷ work) c e w i k j = by x.is_refused j.2 (λ g s d. worked_stands g s n work d e) where
  opened : (client_in h n).is_open ≡ true
  opened = ap (λ (z : Client). z.is_open) i ∙ k.is_open

  by : (b : Bool) → IsToldAs b x.line c j.0 j.1 → LeadsTo n work e → StandsFor (with_client h n e) (run read_line (next read_line st (cond b (refused n) (asks n x.line))) (work_steps n work))
  by true t more = more h st c w i k (subst (λ (z : Client). IsWorked work z e) t.0 j.3)
  by false t more =
      let a : Answers x.line (client_in h n) j.0 t.0 = subst (λ (z : Client). Answers x.line z j.0 t.0) (sym i) t.1 in
      let one = stands_answered h st w n opened x.line j.0 t.0 a in
      subst (λ (z : Hall). StandsFor z (run read_line (next read_line st (asks n x.line)) (work_steps n work))) (put_twice h n j.0 e)
      (more (with_client h n j.0) (next read_line st (asks n x.line)) j.0 one (put_there h n j.0 opened) t.1.lent j.3)

-- ---- in histories

module _ (older : List LogEntry) where
  pub works_here : (h : List Entry) (n : ℕ) (work : List Note) (c : Client) → (w : Works older h n work c) → IsHere (after (start_of older) h) n w.begun
  works_here h n work c w = record { session = w.session; over = w.over; lent = w.lent }

  abbrev pub works_later : (h log : List Entry) (n : ℕ) (work : List Note) (c : Client) → Works older h n work c → session_of (after (start_of older) log) n ≡ session_of (after (start_of older) h) n
      → IsPrefix (after (start_of older) h).log (after (start_of older) log).log → Works older log n work c
  works_later h log n work c w same front = record {
    begun = w.begun;
    session = same ∙ w.session;
    over = subst (λ l. IsOver l w.begun.txn) front.1 (over_more (after (start_of older) h).log front.0 w.begun.txn w.over);
    lent = w.lent;
    worked = w.worked;
  }

  -- so it is with a seat's session, which may be in the room
  module _ (h log : List Entry) (n : ℕ) (work : List Note) (same : session_of (after (start_of older) log) n ≡ session_of (after (start_of older) h) n)
      (front : IsPrefix (after (start_of older) h).log (after (start_of older) log).log) where
    pub if_later : (lent : Option Client) → WorksIf older h n work lent → WorksIf older log n work lent
    if_later None w = w
    if_later (Some c) w = works_later h log n work c w same front

    pub if_told : (lent : Option Client) → WorksIf older h n work lent → told_in read_line n (after (start_of older) log) (work_steps n work) ≡ told_in read_line n (after (start_of older) h) (work_steps n work)
    if_told None w = ap (λ ws. told_in read_line n (after (start_of older) log) (work_steps n ws)) w ∙ ap (λ ws. told_in read_line n (after (start_of older) h) (work_steps n ws)) (sym w)
    if_told (Some c) w =
        let later = works_later h log n work c w same front in
        work_told n (after (start_of older) log) work w.begun c (works_here log n work c later) w.worked
        ∙ sym (work_told n (after (start_of older) h) work w.begun c (works_here h n work c w) w.worked)

  module _ (h : List Entry) (n : ℕ) (work : List Note) where
    pub if_work : (lent : Option Client) → WorksIf older h n work lent → IsWork read_line (after (start_of older) h) n work
    if_work None w = subst (IsWork read_line (after (start_of older) h) n) (sym w) tt
    if_work (Some c) w = work_is n (after (start_of older) h) work w.begun c (works_here h n work c w) w.worked

    pub if_log : (lent : Option Client) → WorksIf older h n work lent → (run read_line (after (start_of older) h) (work_steps n work)).log ≡ (after (start_of older) h).log
    if_log None w = ap (λ ws. (run read_line (after (start_of older) h) (work_steps n ws)).log) w
    if_log (Some c) w = work_log n (after (start_of older) h) work w.begun c (works_here h n work c w) w.worked

    pub if_records : (lent : Option Client) → WorksIf older h n work lent → records read_line (after (start_of older) h) (work_steps n work) ≡ []
    if_records None w = ap (λ ws. records read_line (after (start_of older) h) (work_steps n ws)) w
    if_records (Some c) w = work_records n (after (start_of older) h) work w.begun c (works_here h n work c w) w.worked

    module _ (room : Hall) (stands : StandsFor room (after (start_of older) h)) where
      begun_there : (c : Client) → (w : Works older h n work c) → client_in room n ≡ w.begun
      begun_there c w = client_is_that room (after (start_of older) h) n w.begun stands w.lent.is_open w.session w.over

      pub if_stands : (lent : Option Client) → WorksIf older h n work lent → StandsFor (with_lent room n lent) (run read_line (after (start_of older) h) (work_steps n work))
      if_stands None w = subst (λ ws. StandsFor room (run read_line (after (start_of older) h) (work_steps n ws))) (sym w) stands
      if_stands (Some c) w = worked_stands room (after (start_of older) h) n work w.begun c stands (begun_there c w) w.lent w.worked

      pub if_back : (lent : Option Client) → WorksIf older h n work lent → MayBeBack room n lent
      if_back None w = tt
      if_back (Some c) w =
          let there = begun_there c w in
          let goes = work_goes work w.begun c w.lent w.worked in
          record {
            is_open = ap (λ (z : Client). z.is_open) there ∙ w.lent.is_open;
            goes_on = subst (λ (z : Client). GoesOn z.txn c.txn) (sym there) goes.0;
            lent = goes.1;
          }

  pub lent_if : (h : List Entry) (n : ℕ) (work : List Note) (lent : Option Client) → WorksIf older h n work lent → IsLentIf lent
  lent_if h n work None w = tt
  lent_if h n work (Some c) w = (work_goes work w.begun c w.lent w.worked).1

  -- once the room has lent a session
  pub lent_works : (h : List Entry) (n : ℕ) (room : Hall) (lent : Option Client) → StandsFor room (after (start_of older) h) → IsLentBy room n lent → WorksIf older h n [] lent
  lent_works h n room None stands l = refl
  lent_works h n room (Some c) stands l = record {
    begun = c;
    session = same_session room (after (start_of older) h) stands n ∙ ap session_at (sym l.0);
    over = subst (λ (z : Client). IsOver (after (start_of older) h).log z.txn) (sym l.0) (over_at room (after (start_of older) h) stands n (at_open room n (ap (λ (z : Client). z.is_open) (sym l.0) ∙ l.1.is_open)));
    lent = l.1;
    worked = refl;
  }

  -- ---- one line more

  module _ (h : List Entry) (n : ℕ) (work : List Note) (x : Note) (c e : Client) (text : List ℕ) (w : Works older h n work c) (t : IsToldAs x.is_refused x.line c e text) where
    pub works_more : Works older h n (work ++ x ∷ []) e
    works_more = record {
      begun = w.begun;
      session = w.session;
      over = w.over;
      lent = w.lent;
      worked = worked_more work x w.begun c e text w.worked t;
    }

    pub lines_more : lines_with n h (work ++ x ∷ []) ≡ lines_with n h work ++ x.line ∷ []
    lines_more = ap (λ l. lines_of n h ++ l) (map-append (λ (z : Note). z.line) work (x ∷ [])) ∙ sym (append_assoc (lines_of n h) (work_lines work) (x.line ∷ []))

    pub texts_more : (all : List ℕ) → IsToldWith (start_of older) n h work all → IsToldWith (start_of older) n h (work ++ x ∷ []) (all ++ text)
    texts_more all b = (
      b.0,
      b.1,
      ap (λ l. l ++ text) b.2 ∙ append_assoc b.0 (told_in read_line n (after (start_of older) h) (work_steps n work)) text ∙ ap (λ l. b.0 ++ l) (sym worked),
    ) where
      worked : told_in read_line n (after (start_of older) h) (work_steps n (work ++ x ∷ [])) ≡ told_in read_line n (after (start_of older) h) (work_steps n work) ++ text
      worked =
          let st = run read_line (after (start_of older) h) (work_steps n work) in
          let one = note_leaves st n x c e text (work_here n (after (start_of older) h) work w.begun c (works_here h n work c w) w.worked) t in
          ap (told_in read_line n (after (start_of older) h)) (map-append (note_step n) work (x ∷ []))
          ∙ told_in-append read_line n (after (start_of older) h) (work_steps n work) (note_step n x ∷ [])
          ∙ ap (λ l. told_in read_line n (after (start_of older) h) (work_steps n work) ++ l) one.told

  -- ---- a seat without work

  pub told_alone : (h : List Entry) (t : Seat) (n : ℕ) (text : List ℕ) → t.number ≡ n → work_of t ≡ [] → IsTold (start_of older) n h text → IsToldIn older h t text
  told_alone h t n text number none told = (
    text,
    subst (λ m. IsTold (start_of older) m h text) (sym number) told,
    sym (ap (λ ws. text ++ told_in read_line t.number (after (start_of older) h) (work_steps t.number ws)) none ∙ append-nil text),
  )

  pub told_of_none : (h : List Entry) (s : Seat) (text : List ℕ) → work_of s ≡ [] → IsToldIn older h s text → IsTold (start_of older) s.number h text
  told_of_none h s text none t =
      let same = t.2 ∙ ap (λ ws. t.0 ++ told_in read_line s.number (after (start_of older) h) (work_steps s.number ws)) none ∙ append-nil t.0 in
      subst (IsTold (start_of older) s.number h) (sym same) t.1
