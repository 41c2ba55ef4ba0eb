-- decides: the service
-- What a connection gave and got, where its service ended so.
use Rattle.std.specs.Prelude.{◌≡◌, ◌⊎◌, ℕ, ◌<◌, ◌≤◌, List, [], ◌∷◌, ◌++◌, length, take, flat_map, Option, None, All}
use Rattle.std.specs.Io.KnownBytes.{Appends, Consumes, IsAtEnd}
use Rattle.ifdb_io.specs.Lines.{IsLine, IsLong}
use Rattle.ifdb_wire.specs.declared.fault.Fault.TheVariants as fault
use Rattle.ifdb_wire.specs.declared.reply.Reply.{Reply}
use Rattle.ifdb_wire.specs.declared.reply.Reply.TheVariants as reply
use Rattle.ifdb_wire.specs.Text.{reply_text}
use Rattle.ifdb_turn.specs.declared.turnstile.Pass.{Pass}
use Rattle.ifdb_turn.specs.Passes.{history, places}
use Rattle.ifdb_session.specs.Closings.{Closes}
use Rattle.ifdb_session.specs.Passes.{Adds}
use Rattle.ifdb_history.specs.declared.entry.Entry.{Entry}
use Rattle.ifdb_history.specs.History.{after, IsShut, HasRoot}
use Rattle.ifdb_history.specs.Lines.{lines_of, IsTold}
use Rattle.ifdb_session.specs.declared.ending.Ending.{Ending}
use Rattle.ifdb_session.specs.declared.ending.Ending.TheVariants as ends
use Rattle.ifdb_model.specs.Log.{Entry as LogEntry}
use Rattle.ifdb_session.specs.Starts.{start_of}

-- a line and its newline
abbrev pub with_newline : List ℕ → List ℕ
with_newline line = line ++ 10 ∷ []

-- the bytes of some lines
abbrev pub bytes_of : List (List ℕ) → List ℕ
bytes_of lines = flat_map with_newline lines

-- what refuses a line that is too long
abbrev pub long_text : List ℕ
long_text = reply_text None (reply.Refused fault.TooLong)

-- what a link meant before and now: the bytes that are left to read, and those that were written
pub record Span : Type 0 where
  pub left : Option (List ℕ)
  pub left_now : Option (List ℕ)
  pub written : Option (List ℕ)
  pub written_now : Option (List ℕ)

-- each is a line: no newline is in it, and it isn't too long
abbrev pub AreLines : List (List ℕ) → Type 0
AreLines lines = All IsLine lines

-- these lines came, and these bytes behind them
abbrev pub Took : List (List ℕ) → List ℕ → Span → Type 0
Took lines tail s = AreLines lines × Consumes s.left s.left_now (bytes_of lines ++ tail)

-- so they did, and all of them are within the limit
pub record TookWithin (limit : ℕ) (lines : List (List ℕ)) (tail : List ℕ) (s : Span) : Type 0 where
  pub took : Took lines tail s
  pub within : length (bytes_of lines ++ tail) ≤ limit

-- these bytes were written
abbrev pub Wrote : List ℕ → Span → Type 0
Wrote bytes s = Appends s.written s.written_now bytes

-- these texts were written, and of the last one a front that lacks at least its last byte
pub record WroteShort (texts last : List ℕ) (s : Span) : Type 0 where
  pub n : ℕ
  pub short : n < length last
  pub wrote : Wrote (texts ++ take n last) s

-- the replies before the last one were written, and a front of that
pub record CutsReply (texts : List ℕ) (s : Span) : Type 0 where
  pub before : List ℕ
  pub last : Reply
  pub all : texts ≡ before ++ reply_text None last
  pub wrote : WroteShort before (reply_text None last) s

-- the replies before the last one were written, and nothing of that
pub record HoldsReply (texts : List ℕ) (s : Span) : Type 0 where
  pub before : List ℕ
  pub last : Reply
  pub all : texts ≡ before ++ reply_text None last
  pub wrote : Wrote before s

-- The lines and the texts of a session, whose link was to give at most so many bytes and ended so. The tail is what was read
-- behind the last line: after BYE and where a reply was cut or held back it is anything, else a line without its newline, or the front
-- of a line that is too long and what was read behind that.
abbrev pub Ends : Ending → ℕ → List (List ℕ) → List ℕ → Span → Type 0
Ends ends.Bye limit lines texts s = ((tail : List ℕ) × TookWithin limit lines tail s) × Wrote texts s
Ends ends.End limit lines texts s = ((tail : List ℕ) × TookWithin limit lines tail s × IsLine tail × IsAtEnd s.left_now) × Wrote texts s
Ends ends.LinkRead limit lines texts s = ((tail : List ℕ) × TookWithin limit lines tail s × IsLine tail) × Wrote texts s
Ends ends.LinkWrite limit lines texts s =
    (((tail : List ℕ) × TookWithin limit lines tail s) × CutsReply texts s)
    ⊎ (((front : List ℕ) × (rest : List ℕ) × TookWithin limit lines (front ++ rest) s × IsLong front) × WroteShort texts long_text s)
Ends ends.Unkept limit lines texts s = ((tail : List ℕ) × TookWithin limit lines tail s) × HoldsReply texts s
Ends ends.TooMuch limit lines texts s =
    ((tail : List ℕ) × (last : ℕ) × Took lines (tail ++ last ∷ []) s × IsLine tail × (length (bytes_of lines ++ tail) ≡ limit)) × Wrote texts s
Ends ends.TooLong limit lines texts s =
    ((front : List ℕ) × (rest : List ℕ) × TookWithin limit lines (front ++ rest) s × IsLong front) × Wrote (texts ++ long_text) s
Ends ends.OutOfMemory limit lines texts s = ⊥

-- a link was served by session n of this history, which is over
abbrev pub IsServed : List LogEntry → Ending → ℕ → ℕ → List Entry → Span → Type 0
IsServed first ending limit n h s =
    IsShut (after (start_of first) h) n × Closes ending n h
    × ((texts : List ℕ) × IsTold (start_of first) n h texts × Ends ending limit (lines_of n h) texts s)

-- What the service of a link did to the pass, where it opened session n: that was its first turn, and each of its turns was the
-- session's.
pub record Served {X : Type 0} (before : List LogEntry) (ending : Ending) (limit n : ℕ) (old new : Pass X Entry) (s : Span) : Type 0 where
  pub place : ℕ
  pub rest : List ℕ
  pub first : HasRoot (history new) n place
  pub own : places new ≡ places old ++ place ∷ rest
  pub adds : Adds n old new
  pub served : IsServed before ending limit n (history new) s
