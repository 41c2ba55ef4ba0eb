-- What a turn finds, and the entries that it may add.
use Rattle.std.proofs.Common.{◌≡◌, ℕ, ◌+◌, ◌<◌, false, List, [], ◌∷◌, ◌++◌, ◌∙◌, length, refl, sym, ap, subst, arith, cond}
use Rattle.std.proofs.lemmas.List.{append-nil}
use mathlib.Core.List.{IsPrefix}
use Rattle.ifdb_turn.specs.Histories.{AllRight, NoRootsFrom}
use Rattle.ifdb_turn.specs.Places.{times}
use Rattle.ifdb_model.specs.Log.{Entry as LogEntry, commits_of}
use Rattle.ifdb_model.specs.Run.{State, opens, asks, leaves, next, run}
use Rattle.ifdb_model.proofs.Runs.{run-append}
use Rattle.ifdb_redo.specs.declared.record.RedoRecord.{RedoRecord}
use Rattle.ifdb_restore.specs.Redone.{records_at, records}
use Rattle.ifdb_db.specs.Looks.{Looking, IsLookOf}
use Rattle.ifdb_db.specs.Reading.{read_line}
use Rattle.ifdb_db.specs.Room.{Hall, StandsFor}
use Rattle.ifdb_db.specs.RoomSteps.{GoesBy}
use Rattle.ifdb_db.proofs.Looking.{only_looks}
use Rattle.ifdb_history.specs.declared.entry.Entry.{Entry}
use Rattle.ifdb_history.specs.declared.entry.Kind.TheVariants as kind
use Rattle.ifdb_history.specs.declared.entry.Note.{Note}
use Rattle.ifdb_history.specs.History.{work_steps, steps_of, after, IsAt, IsRight, root_in, opening_entry, entry_of}
use Rattle.ifdb_history.specs.Counts.{commits_in}
use Rattle.ifdb_history.proofs.Flat.{after-append}
use Rattle.ifdb_history.proofs.Own.{own_is_right}
use Rattle.ifdb_session.specs.Counts.{commits_at, refuses_at}
use Rattle.ifdb_session.specs.Seats.{work_of, lines_in, IsToldIn, asked_entry, left_entry, IsSeated}
use Rattle.ifdb_session.specs.declared.seat.Seat.{Seat}
use Rattle.ifdb_session.specs.declared.records.Records as recorder
use Rattle.ifdb_session.specs.declared.shared.SharedRoom.{SharedRoom}
use Rattle.ifdb_session.specs.Records.{records_of}
use Rattle.ifdb_session.specs.Standing.{StandsForHistory}
use Rattle.ifdb_session.specs.Turns.{with_lent, MayBeBack, HasCounted, CountsTurn, RecordsStep}
use Rattle.ifdb_session.proofs.Counting.{stands_more, commits_more, line_commits, leaving_commits}
use Rattle.ifdb_session.proofs.Recording.{records-append, quiet, records_more, records_still}
use Rattle.ifdb_session.proofs.Apart.{seat_later}
use Rattle.ifdb_session.proofs.Working.{if_work, if_log, if_records, if_stands, if_back}
use Rattle.ifdb_session.specs.Starts.{start_of}

module _ (older : List LogEntry) where
  -- ---- the state after an entry

  pub asked_state : (log : List Entry) (n : ℕ) (work : List Note) (line : List ℕ)
      → after (start_of older) (log ++ entry_of log n (kind.Asked n work line) ∷ []) ≡ next read_line (run read_line (after (start_of older) log) (work_steps n work)) (asks n line)
  asked_state log n work line =
      after-append (start_of older) log (entry_of log n (kind.Asked n work line) ∷ [])
      ∙ ap (run read_line (after (start_of older) log)) (append-nil (work_steps n work ++ asks n line ∷ []))
      ∙ run-append read_line (after (start_of older) log) (work_steps n work) (asks n line ∷ [])

  pub left_state : (log : List Entry) (n : ℕ) (work : List Note)
      → after (start_of older) (log ++ entry_of log n (kind.Left n work) ∷ []) ≡ next read_line (run read_line (after (start_of older) log) (work_steps n work)) (leaves n)
  left_state log n work =
      after-append (start_of older) log (entry_of log n (kind.Left n work) ∷ [])
      ∙ ap (run read_line (after (start_of older) log)) (append-nil (work_steps n work ++ leaves n ∷ []))
      ∙ run-append read_line (after (start_of older) log) (work_steps n work) (leaves n ∷ [])

  -- ---- what a turn finds: the history has grown by entries of others alone, and the seat is as it was

  pub seat_found : (h log : List Entry) (own : List ℕ) (s : Seat) → IsSeated older h own s → IsPrefix h log → AllRight (IsRight (start_of older)) log
      → NoRootsFrom (λ (e : Entry). e.root) log (length h) own → IsSeated older log own s × (lines_in log s ≡ lines_in h s) × ((text : List ℕ) → IsToldIn older h s text → IsToldIn older log s text)
  seat_found h log own s seated front right away = let found = seat_later older h log front right own away s seated in (found.0, found.1.lines, found.1.texts)

  -- ---- what is recorded then

  -- a line of a seat records what its step does behind the session's work
  asked_more : (log : List Entry) (s : Seat) (line : List ℕ) → records read_line (after (start_of older) log) (work_steps s.number (work_of s)) ≡ []
      → records_of older (log ++ asked_entry log s.number (work_of s) line ∷ [])
      ≡ records_of older log ++ records_at read_line (run read_line (after (start_of older) log) (work_steps s.number (work_of s))) (asks s.number line)
  asked_more log s line none =
      let last = records_at read_line (run read_line (after (start_of older) log) (work_steps s.number (work_of s))) (asks s.number line) in
      records_more older log (asked_entry log s.number (work_of s) line)
      ∙ ap (λ (rs : List RedoRecord). records_of older log ++ rs) (
      records-append read_line (after (start_of older) log) (work_steps s.number (work_of s)) (asks s.number line ∷ [])
      ∙ ap (λ (rs : List RedoRecord). rs ++ (last ++ [])) none
      ∙ append-nil last
      )

-- a turn that records nothing leaves what was recorded
still_recorded : {Q : Type 0} (recorders : recorder.Ghosts Q) (old new : SharedRoom Q) (log : List Entry) (e : Entry) → StandsForHistory recorders old log → new.records ≡ old.records
    → records read_line (after (start_of recorders.first) log) (steps_of e.kind) ≡ [] → recorders.has new.records (records_of recorders.first (log ++ e ∷ []))
still_recorded recorders old new log e stands same none =
    subst (recorders.has new.records) (sym (records_still recorders.first log e none)) (subst (λ q. recorders.has q (records_of recorders.first log)) (sym same) stands.recorded)

-- ---- the entries that it may add

module _ {Q : Type 0} (recorders : recorder.Ghosts Q) (log : List Entry) (own : List ℕ) (s : Seat) (seated : IsSeated recorders.first log own s) (old new : SharedRoom Q)
    (stands : StandsForHistory recorders old log) where
  mine : IsAt (start_of recorders.first) log s.number (root_in log s.number) × (0 < times (root_in log s.number) own)
  mine = own_is_right (start_of recorders.first) log own s.number seated.holds

  -- the state before the last step, in which the session has done its work
  abbrev worked : State
  worked = run read_line (after (start_of recorders.first) log) (work_steps s.number (work_of s))

  then : StandsFor (with_lent old.room s.number s.lent) worked
  then = if_stands recorders.first log s.number (work_of s) old.room stands.room s.lent seated.works

  pub may_be_back : MayBeBack old.room s.number s.lent
  may_be_back = if_back recorders.first log s.number (work_of s) old.room stands.room s.lent seated.works

  pub may_ask : (line : List ℕ) → GoesBy (with_lent old.room s.number s.lent) new.room (asks s.number line)
      → CountsTurn (with_lent old.room s.number s.lent) (kind.Asked s.number [] line) old new
      → RecordsStep recorders (with_lent old.room s.number s.lent) (asks s.number line) old new
      → StandsForHistory recorders new (log ++ asked_entry log s.number (work_of s) line ∷ [])
      × IsRight (start_of recorders.first) log (asked_entry log s.number (work_of s) line) × (0 < times (root_in log s.number) own)
  may_ask line goes counts recording = (
    stands_more recorders old new log e (commits_at read_line worked (kind.Asked s.number [] line)) (refuses_at read_line worked (kind.Asked s.number [] line)) stands room commits refl (counts worked then) recorded,
    (mine.0, if_work recorders.first log s.number (work_of s) s.lent seated.works),
    mine.1,
  ) where
    e : Entry
    e = asked_entry log s.number (work_of s) line

    recorded : recorders.has new.records (records_of recorders.first (log ++ e ∷ []))
    recorded = subst (recorders.has new.records) (sym (asked_more recorders.first log s line (if_records recorders.first log s.number (work_of s) s.lent seated.works))) (recording worked (records_of recorders.first log) then stands.recorded)

    room : StandsFor new.room (after (start_of recorders.first) (log ++ e ∷ []))
    room = subst (StandsFor new.room) (sym (asked_state recorders.first log s.number (work_of s) line)) (goes worked then)

    commits : commits_in (start_of recorders.first) (log ++ e ∷ []) ≡ commits_in (start_of recorders.first) log + cond (commits_at read_line worked (kind.Asked s.number [] line)) 1 0
    commits = commits_more (start_of recorders.first) log e (next read_line worked (asks s.number line)) _ (asked_state recorders.first log s.number (work_of s) line)
        (line_commits read_line worked s.number line
        ∙ ap (λ l. length (commits_of l) + cond (commits_at read_line worked (kind.Asked s.number [] line)) 1 0) (if_log recorders.first log s.number (work_of s) s.lent seated.works))

  pub may_leave : GoesBy (with_lent old.room s.number s.lent) new.room (leaves s.number)
      → CountsTurn (with_lent old.room s.number s.lent) (kind.Left s.number []) old new → new.records ≡ old.records
      → StandsForHistory recorders new (log ++ left_entry log s.number (work_of s) ∷ [])
      × IsRight (start_of recorders.first) log (left_entry log s.number (work_of s)) × (0 < times (root_in log s.number) own)
  may_leave goes counts same = (
    stands_more recorders old new log e false false stands room commits refl (counts worked then) (still_recorded recorders old new log e stands same none),
    (mine.0, if_work recorders.first log s.number (work_of s) s.lent seated.works),
    mine.1,
  ) where
    e : Entry
    e = left_entry log s.number (work_of s)

    none : records read_line (after (start_of recorders.first) log) (steps_of e.kind) ≡ []
    none = records-append read_line (after (start_of recorders.first) log) (work_steps s.number (work_of s)) (leaves s.number ∷ []) ∙ append-nil _ ∙ if_records recorders.first log s.number (work_of s) s.lent seated.works

    room : StandsFor new.room (after (start_of recorders.first) (log ++ e ∷ []))
    room = subst (StandsFor new.room) (sym (left_state recorders.first log s.number (work_of s))) (goes worked then)

    commits : commits_in (start_of recorders.first) (log ++ e ∷ []) ≡ commits_in (start_of recorders.first) log + 0
    commits = commits_more (start_of recorders.first) log e (next read_line worked (leaves s.number)) false (left_state recorders.first log s.number (work_of s))
        (leaving_commits read_line worked s.number ∙ ap (λ l. length (commits_of l) + 0) (if_log recorders.first log s.number (work_of s) s.lent seated.works))

  pub may_refuse : (line : List ℕ) → new.room ≡ old.room → new.records ≡ old.records → CountsTurn old.room (kind.Refused s.number line) old new
      → StandsForHistory recorders new (log ++ entry_of log s.number (kind.Refused s.number line) ∷ [])
      × IsRight (start_of recorders.first) log (entry_of log s.number (kind.Refused s.number line)) × (0 < times (root_in log s.number) own)
  may_refuse line same recorded counts = (
    stands_more recorders old new log e false false stands room (commits_more (start_of recorders.first) log e (after (start_of recorders.first) log) false state (omega arith)) refl (counts (after (start_of recorders.first) log) stands.room) (still_recorded recorders old new log e stands recorded refl),
    mine.0,
    mine.1,
  ) where
    e : Entry
    e = entry_of log s.number (kind.Refused s.number line)

    state : after (start_of recorders.first) (log ++ e ∷ []) ≡ after (start_of recorders.first) log
    state = after-append (start_of recorders.first) log (e ∷ [])

    room : StandsFor new.room (after (start_of recorders.first) (log ++ e ∷ []))
    room = subst (λ (h : Hall). StandsFor h (after (start_of recorders.first) (log ++ e ∷ []))) (sym same) (subst (StandsFor old.room) (sym state) stands.room)

  pub may_look : (line : List ℕ) (x : Looking) → IsLookOf old.room s.number line x → new.room ≡ old.room → new.records ≡ old.records → HasCounted old new false false
      → StandsForHistory recorders new (log ++ entry_of log s.number (kind.Looked s.number line) ∷ [])
      × IsRight (start_of recorders.first) log (entry_of log s.number (kind.Looked s.number line)) × (0 < times (root_in log s.number) own)
  may_look line x look same recorded counts = (
    stands_more recorders old new log e false false stands room (commits_more (start_of recorders.first) log e (after (start_of recorders.first) log) false state (omega arith)) refl counts (still_recorded recorders old new log e stands recorded none),
    (mine.0, still),
    mine.1,
  ) where
    e : Entry
    e = entry_of log s.number (kind.Looked s.number line)

    still : next read_line (after (start_of recorders.first) log) (asks s.number line) ≡ after (start_of recorders.first) log
    still = only_looks old.room (after (start_of recorders.first) log) stands.room s.number line x look

    none : records read_line (after (start_of recorders.first) log) (steps_of e.kind) ≡ []
    none = append-nil _ ∙ quiet read_line (after (start_of recorders.first) log) (asks s.number line) (ap (λ (st : State). st.log) still)

    state : after (start_of recorders.first) (log ++ e ∷ []) ≡ after (start_of recorders.first) log
    state = after-append (start_of recorders.first) log (e ∷ []) ∙ still

    room : StandsFor new.room (after (start_of recorders.first) (log ++ e ∷ []))
    room = subst (λ (h : Hall). StandsFor h (after (start_of recorders.first) (log ++ e ∷ []))) (sym same) (subst (StandsFor old.room) (sym state) stands.room)

-- ---- that of a session that is opened

pub may_open : {Q : Type 0} (recorders : recorder.Ghosts Q) (old new : SharedRoom Q) (log : List Entry) → StandsForHistory recorders old log → GoesBy old.room new.room opens
    → CountsTurn old.room kind.Opened old new → new.records ≡ old.records
    → StandsForHistory recorders new (log ++ opening_entry log ∷ []) × IsRight (start_of recorders.first) log (opening_entry log)
may_open recorders old new log stands goes counts same =
    let state = after-append (start_of recorders.first) log (opening_entry log ∷ []) in
    let room : StandsFor new.room (after (start_of recorders.first) (log ++ opening_entry log ∷ [])) = subst (StandsFor new.room) (sym state) (goes (after (start_of recorders.first) log) stands.room) in
    let commits = commits_more (start_of recorders.first) log (opening_entry log) (next read_line (after (start_of recorders.first) log) opens) false state (omega arith) in
    (stands_more recorders old new log (opening_entry log) false false stands room commits refl (counts (after (start_of recorders.first) log) stands.room) (still_recorded recorders old new log (opening_entry log) stands same refl), refl)
