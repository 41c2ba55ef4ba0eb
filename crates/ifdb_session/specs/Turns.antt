-- What the room does in a turn, whatever state it stands for.
use Rattle.std.specs.Prelude.{◌≡◌, ℕ, ◌+◌, Bool, true, false, List, [], ◌++◌, length, Option, Some, None}
use Rattle.ifdb_wire.specs.Text.{memory_text}
use Rattle.ifdb_redo.specs.declared.record.RedoRecord.{RedoRecord}
use Rattle.ifdb_model.specs.Run.{State, Step, session_of, asks}
use Rattle.ifdb_restore.specs.Redone.{records_at}
use Rattle.ifdb_db.specs.Reading.{read_line}
use Rattle.ifdb_db.specs.Client.{Client}
use Rattle.ifdb_db.specs.Lent.{IsLent, MayComeBack, with_client}
use Rattle.ifdb_db.specs.Room.{Hall, StandsFor, client_in}
use Rattle.ifdb_db.specs.RoomSteps.{GoesBy, IsReplyText}
use Rattle.ifdb_history.specs.declared.entry.Kind.{Kind}
use Rattle.ifdb_history.specs.declared.entry.Kind.TheVariants as kind
use Rattle.ifdb_session.specs.declared.records.Records as recorder
use Rattle.ifdb_session.specs.declared.shared.Asked.{Asked}
use Rattle.ifdb_session.specs.declared.shared.Asked.TheVariants as asked
use Rattle.ifdb_session.specs.declared.shared.SharedRoom.{SharedRoom}
use Rattle.ifdb_session.specs.Counts.{counted, commits_at, refuses_at}
use Rattle.ifdb_session.specs.Endings.{capped}
use Rattle.ifdb_session.specs.Texts.{texts_for}

-- the number is that of the next session
abbrev pub IsNextNumber : Hall → ℕ → Type 0
IsNextNumber h n = (st : State) → StandsFor h st → n ≡ length st.sessions + 1

-- the session is open, or it isn't
abbrev pub IsLeftOpen : Hall → ℕ → Bool → Type 0
IsLeftOpen h n is_open = (st : State) → StandsFor h st → (session_of st n).is_open ≡ is_open

-- ---- a session that may be lent

-- the hall with a session in its place, if it was lent
abbrev pub with_lent : Hall → ℕ → Option Client → Hall
with_lent h n None = h
with_lent h n (Some c) = with_client h n c

-- it may come back, if it was lent
abbrev pub MayBeBack : Hall → ℕ → Option Client → Type 0
MayBeBack h n None = Unit {0}
MayBeBack h n (Some c) = MayComeBack h n c

-- the room has lent the session as it stands, or it hasn't
abbrev pub IsLentBy : Hall → ℕ → Option Client → Type 0
IsLentBy h n None = Unit {0}
IsLentBy h n (Some c) = (c ≡ client_in h n) × IsLent c

-- so it is with a session that is open still; one that is over is lent no more
abbrev pub IsLentAfter : Hall → ℕ → Bool → Option Client → Type 0
IsLentAfter h n true now = IsLentBy h n now
IsLentAfter h n false now = now ≡ None

-- ---- what is counted

module _ {Q : Type 0} where
  -- one entry more is counted, and a commit or a refused COMMIT if it is so
  pub record HasCounted (old new : SharedRoom Q) (is_commit is_refused : Bool) : Type 0 where
    pub entries : new.entries ≡ capped (old.entries + 1)
    pub commits : new.commits ≡ counted old.commits is_commit
    pub refused : new.refused ≡ counted old.refused is_refused

  -- a turn was counted as what it is, whatever state the hall stands for at which it was taken
  abbrev pub CountsTurn : Hall → Kind → SharedRoom Q → SharedRoom Q → Type 0
  CountsTurn h x old new = (st : State) → StandsFor h st → HasCounted old new (commits_at read_line st x) (refuses_at read_line st x)

-- ---- what is recorded

module _ {Q : Type 0} (recorders : recorder.Ghosts Q) where
  -- the records of a step were made behind the others, whatever state the hall stood for at which it was taken
  abbrev pub RecordsStep : Hall → Step → SharedRoom Q → SharedRoom Q → Type 0
  RecordsStep h x old new = (st : State) (rs : List RedoRecord) → StandsFor h st → recorders.has old.records rs
      → recorders.has new.records (rs ++ records_at read_line st x)

  -- so many records of a journal were made in all
  abbrev pub IsCount : SharedRoom Q → ℕ → Type 0
  IsCount shared count = (rs : List RedoRecord) → recorders.has shared.records rs → count ≡ recorders.count_of (texts_for rs)

-- ---- a line

-- a line was answered with this text
abbrev pub IsAnswered : ℕ → List ℕ → Hall → Hall → List ℕ → Bool → Type 0
IsAnswered n line h g text is_open = GoesBy h g (asks n line) × IsReplyText h n line None text × IsLeftOpen g n is_open

module _ {Q : Type 0} (recorders : recorder.Ghosts Q) where
  -- So it was, by a session that was lent or not; the room has lent it again, if it could be. Or there was no memory for the
  -- line: in the room it is counted, and a lent session stays as it is.
  abbrev pub IsAsked : ℕ → List ℕ → Option Client → Option Client → SharedRoom Q → SharedRoom Q → List ℕ → Asked → Type 0
  IsAsked n line lent now old new text (asked.Done is_open count) =
      IsAnswered n line (with_lent old.room n lent) new.room text is_open
      × CountsTurn (with_lent old.room n lent) (kind.Asked n [] line) old new × IsLentAfter new.room n is_open now
      × RecordsStep recorders (with_lent old.room n lent) (asks n line) old new × IsCount recorders new count
  IsAsked n line lent now old new text (asked.Refused count) =
      (new.room ≡ old.room) × (text ≡ memory_text None) × CountsTurn old.room (kind.Refused n line) old new × (lent ≡ None) × (now ≡ None)
      × (new.records ≡ old.records) × IsCount recorders new count
  IsAsked n line lent now old new text asked.Kept = (new ≡ old) × (text ≡ memory_text None) × (now ≡ lent) × ((c : Client) × (lent ≡ Some c))
