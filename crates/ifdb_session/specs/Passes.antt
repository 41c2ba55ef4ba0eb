-- What the turns of a session do to the pass that they are taken with.
use Rattle.std.specs.Prelude.{◌≡◌, ◌≢◌, ◌⊎◌, ◌<◌, ℕ, Bool, true, false, List, [], ◌∷◌, ◌++◌, Option, Some, None}
use mathlib.Core.List.{IsPrefix}
use Rattle.ifdb_turn.specs.declared.turnstile.Turnstile.{Turnstile}
use Rattle.ifdb_turn.specs.declared.turnstile.Pass.{Pass}
use Rattle.ifdb_turn.specs.Passes.{history, places, shares, BelongsTo, IsOrderly}
use Rattle.ifdb_wire.specs.declared.reply.Reply.{Reply}
use Rattle.ifdb_wire.specs.Text.{reply_text}
use Rattle.ifdb_db.specs.Client.{Client}
use Rattle.ifdb_db.specs.Lent.{EndsTransaction}
use Rattle.ifdb_history.specs.declared.entry.Entry.{Entry}
use Rattle.ifdb_history.specs.History.{after, HasRoot, WasOpened, IsRight, Holds, AreEntriesOf}
use Rattle.ifdb_history.specs.Lines.{lines_of, IsTold}
use Rattle.ifdb_session.specs.Closings.{AsksBye}
use Rattle.ifdb_session.specs.declared.seat.Seat.{Seat}
use Rattle.ifdb_session.specs.Seats.{lines_in, IsToldIn, IsSeated, IsGone}
use Rattle.ifdb_model.specs.Log.{Entry as LogEntry}
use Rattle.ifdb_model.specs.Run.{session_of}
use Rattle.ifdb_session.specs.Starts.{start_of}

-- a session is held still, was asked the same lines and told the same bytes, and is as it was
pub record IsLeftAlone (first : List LogEntry) (h new : List Entry) (own : List ℕ) (m : ℕ) : Type 0 where
  pub holds : Holds (start_of first) new own m
  pub lines : lines_of m new ≡ lines_of m h
  pub texts : (text : List ℕ) → IsTold (start_of first) m h text → IsTold (start_of first) m new text
  pub session : session_of (after (start_of first) new) m ≡ session_of (after (start_of first) h) m

module _ {X : Type 0} where
  -- the pass has seen more, in order, and has its shares still
  pub record Sees (first : List LogEntry) (hall : Turnstile X Entry) (old new : Pass X Entry) : Type 0 where
    pub belongs : BelongsTo hall new
    pub orderly : IsOrderly (IsRight (start_of first)) new
    pub begins : IsPrefix (history old) (history new)
    pub shares : shares new ≡ shares old

  -- its own entries are the old ones, and then some of this session
  pub record Adds (n : ℕ) (old new : Pass X Entry) : Type 0 where
    pub added : List ℕ
    pub own : places new ≡ places old ++ added
    pub of : AreEntriesOf n (history new) added

  -- each session that the pass holds is left alone
  abbrev pub LeavesAll : List LogEntry → Pass X Entry → Pass X Entry → Type 0
  LeavesAll first old new = (m : ℕ) → Holds (start_of first) (history old) (places old) m → IsLeftAlone first (history old) (history new) (places new) m

  -- so is each but that of this number
  abbrev pub LeavesOthers : List LogEntry → ℕ → Pass X Entry → Pass X Entry → Type 0
  LeavesOthers first n old new = (m : ℕ) → m ≢ n → Holds (start_of first) (history old) (places old) m → IsLeftAlone first (history old) (history new) (places new) m

  -- The session of this number, which is above all before it, was opened by one turn, was asked nothing yet and told nothing.
  pub record IsNew (first : List LogEntry) (n : ℕ) (old new : Pass X Entry) : Type 0 where
    pub place : ℕ
    pub root : HasRoot (history new) n place
    pub own : places new ≡ places old ++ place ∷ []
    pub adds : Adds n old new
    pub above : (m : ℕ) → WasOpened (after (start_of first) (history old)) m → m < n
    pub holds : Holds (start_of first) (history new) (places new) n
    pub lines : lines_of n (history new) ≡ []
    pub texts : IsTold (start_of first) n (history new) []

  -- the session of a seat was asked a line and told one reply, and it is open still; or that was BYE, and it is over
  pub record Asks (first : List LogEntry) (hall : Turnstile X Entry) (line text : List ℕ) (old new : Pass X Entry) (s t : Seat) (is_open : Bool) : Type 0 where
    pub sees : Sees first hall old new
    pub adds : Adds s.number old new
    pub number : t.number ≡ s.number
    pub seated : is_open ≡ true → IsSeated first (history new) (places new) t
    pub over : is_open ≡ false → IsGone first (history new) t
    pub bye : is_open ≡ false → AsksBye s.number (history new) line
    pub reply : (r : Reply) × (text ≡ reply_text None r)
    pub lines : lines_in (history new) t ≡ lines_in (history old) s ++ line ∷ []
    pub texts : (before : List ℕ) → IsToldIn first (history old) s before → IsToldIn first (history new) t (before ++ text)

  -- a line of a session that is lent took no turn, and so left the pass as it was, unless it ends the transaction
  abbrev pub TakesNoTurn : List ℕ → Option Client → Pass X Entry → Pass X Entry → Type 0
  TakesNoTurn line None old new = Unit {0}
  TakesNoTurn line (Some c) old new = EndsTransaction line ⊎ (new ≡ old)
