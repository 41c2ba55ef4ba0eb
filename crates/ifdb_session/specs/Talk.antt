-- How the lines of a connection are taken and answered.
use Rattle.std.specs.Prelude.{◌≡◌, ℕ, Bool, true, false, List, ◌++◌, length}
use Rattle.ifdb_io.specs.Lines.{Reading}
use Rattle.ifdb_history.specs.declared.entry.Entry.{Entry}
use Rattle.ifdb_session.specs.Closings.{EndsInBye, MayBeOpen}
use Rattle.ifdb_session.specs.Links.{Span, Took, Wrote, bytes_of, Ends}
use Rattle.ifdb_session.specs.Seats.{lines_in, IsToldIn, IsSeated, IsGone}
use Rattle.ifdb_session.specs.declared.link.Talked.{Talked}
use Rattle.ifdb_session.specs.declared.seat.Seat.{Seat}
use Rattle.ifdb_model.specs.Log.{Entry as LogEntry}

-- these lines were taken, these texts were written, and the reader holds the bytes behind the lines
pub record Talks (lines : List (List ℕ)) (texts : List ℕ) (reader : Reading) (s : Span) : Type 0 where
  pub took : Took lines reader.held s
  pub count : reader.taken ≡ length (bytes_of lines ++ reader.held)
  pub wrote : Wrote texts s
  pub over : reader.over ≡ false
  pub still : reader.skipping ≡ false

-- the session of a seat is open still, or it is over by its last line
abbrev pub IsLeftSo : List LogEntry → List Entry → List ℕ → Seat → Bool → Type 0
IsLeftSo first h own seat true = IsSeated first h own seat
IsLeftSo first h own seat false = IsGone first h seat × EndsInBye seat.number h (lines_in h seat)

-- the lines of a seat's session ended so
abbrev pub IsTalked : List LogEntry → List Entry → List ℕ → Seat → ℕ → Span → Talked → Type 0
IsTalked first h own seat limit s talked =
    ((texts : List ℕ) × IsToldIn first h seat texts × Ends talked.ending limit (lines_in h seat) texts s)
    × IsLeftSo first h own seat talked.is_open × MayBeOpen talked.ending talked.is_open

-- the lines of a seat's session were taken, and what it was told was written
abbrev pub IsTalking : List LogEntry → List Entry → Seat → Reading → Span → Type 0
IsTalking first h seat reader s = (texts : List ℕ) × IsToldIn first h seat texts × Talks (lines_in h seat) texts reader s
