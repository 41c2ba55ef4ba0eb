-- decides: a served database
-- What a connection has exchanged, before its end and at each end that it may have.
use Rattle.std.specs.Prelude.{◌≡◌, ◌⊎◌, ℕ, ◌+◌, ◌<◌, ◌≤◌, List, [], ◌∷◌, ◌++◌, length, Bool, true, false, Option, None, Some, IfSome, Result, Ok, Err}
use Rattle.std.specs.Io.KnownBytes.{IsAtEnd}
use Rattle.ifdb_io.specs.Lines.{IsLine}
use Rattle.ifdb_loop.specs.declared.ending.Ending.{Ending}
use Rattle.ifdb_loop.specs.declared.ending.Ending.TheVariants as ends
use Rattle.ifdb_loop.specs.Traffic.{Traffic}
use Rattle.ifdb_loop.specs.Dialogues.{Dialogue}
use Rattle.ifdb_loop.specs.Exchange.{IsExchanged, IsTooLong}

-- the dialogue was exchanged, with these bytes behind its lines
abbrev pub HasTail : Traffic → List ℕ → List ℕ → Dialogue → Type 0
HasTail t tail owed d = IsExchanged t tail owed d.lines d.texts

-- so it was, but for the last text, of which nothing is owed
pub record LacksLast (t : Traffic) (owed : List ℕ) (d : Dialogue) : Type 0 where
  pub tail : List ℕ
  pub told : List ℕ
  pub last : List ℕ
  pub exchanged : IsExchanged t tail owed d.lines told
  pub all : d.texts ≡ told ++ last

-- A connection ended so. The long text is what refuses a line that is too long.
abbrev pub Closes : List ℕ → Ending → Traffic → List ℕ → Dialogue → Type 0
Closes long ends.Bye t owed d = (tail : List ℕ) × HasTail t tail owed d
Closes long ends.End t owed d = (tail : List ℕ) × HasTail t tail owed d × IsLine tail × IsAtEnd t.left
Closes long ends.LinkRead t owed d = (tail : List ℕ) × HasTail t tail owed d × IsLine tail
Closes long ends.LinkWrite t owed d = (tail : List ℕ) × HasTail t tail owed d
Closes long (ends.Halted halt) t owed d = (tail : List ℕ) × HasTail t tail owed d
Closes long ends.TooMuch t owed d = (tail : List ℕ) × (last : ℕ) × HasTail t (tail ++ last ∷ []) owed d × IsLine tail
Closes long ends.TooLong t owed d = (tail : List ℕ) × IsExchanged t tail owed d.lines (d.texts ++ long) × IsTooLong tail
Closes long ends.OutOfMemory t owed d = LacksLast t owed d

-- so it is with a connection that has ended; of one that hasn't, these bytes are held
abbrev pub Carries : List ℕ → Option Ending → Traffic → List ℕ → List ℕ → Dialogue → Type 0
Carries long None t held owed d = HasTail t held owed d
Carries long (Some ending) t held owed d = Closes long ending t owed d

-- a connection that ended so gave so many bytes: one more than the limit, or no more than that
abbrev pub FitsLimit : Ending → ℕ → ℕ → Type 0
FitsLimit ends.TooMuch limit count = count ≡ limit + 1
FitsLimit ends.Bye limit count = count ≤ limit
FitsLimit ends.End limit count = count ≤ limit
FitsLimit ends.LinkRead limit count = count ≤ limit
FitsLimit ends.LinkWrite limit count = count ≤ limit
FitsLimit (ends.Halted halt) limit count = count ≤ limit
FitsLimit ends.TooLong limit count = count ≤ limit
FitsLimit ends.OutOfMemory limit count = count ≤ limit

-- one that hasn't ended has room left for so many
abbrev pub KeepsLimit : Option Ending → ℕ → ℕ → Option (List ℕ) → Type 0
KeepsLimit None limit room given = IfSome given (λ bytes. length bytes + room ≡ limit)
KeepsLimit (Some ending) limit room given = IfSome given (λ bytes. FitsLimit ending limit (length bytes))

-- whether the session of a connection that ended so was closed by its last line
abbrev pub MayBeOpen : Option Ending → Bool → Type 0
MayBeOpen None is_open = is_open ≡ true
MayBeOpen (Some ends.Bye) is_open = is_open ≡ false
MayBeOpen (Some ends.End) is_open = is_open ≡ true
MayBeOpen (Some ends.LinkRead) is_open = is_open ≡ true
MayBeOpen (Some ends.LinkWrite) is_open = is_open ≡ true
MayBeOpen (Some (ends.Halted halt)) is_open = is_open ≡ true
MayBeOpen (Some ends.TooMuch) is_open = is_open ≡ true
MayBeOpen (Some ends.TooLong) is_open = is_open ≡ true
MayBeOpen (Some ends.OutOfMemory) is_open = Unit {0}

-- reading has failed at this end alone
abbrev pub HasReadCause : Option Ending → ℕ → Type 0
HasReadCause None unread = unread ≡ 0
HasReadCause (Some ends.LinkRead) unread = 0 < unread
HasReadCause (Some ends.Bye) unread = unread ≡ 0
HasReadCause (Some ends.End) unread = unread ≡ 0
HasReadCause (Some ends.LinkWrite) unread = unread ≡ 0
HasReadCause (Some (ends.Halted halt)) unread = unread ≡ 0
HasReadCause (Some ends.TooMuch) unread = unread ≡ 0
HasReadCause (Some ends.TooLong) unread = unread ≡ 0
HasReadCause (Some ends.OutOfMemory) unread = unread ≡ 0

-- writing hasn't failed before the end, and has at this one; it may have failed behind any other
abbrev pub HasWriteCause : Option Ending → ℕ → Type 0
HasWriteCause None unwritten = unwritten ≡ 0
HasWriteCause (Some ends.LinkWrite) unwritten = 0 < unwritten
HasWriteCause (Some ends.Bye) unwritten = Unit {0}
HasWriteCause (Some ends.End) unwritten = Unit {0}
HasWriteCause (Some ends.LinkRead) unwritten = Unit {0}
HasWriteCause (Some (ends.Halted halt)) unwritten = Unit {0}
HasWriteCause (Some ends.TooMuch) unwritten = Unit {0}
HasWriteCause (Some ends.TooLong) unwritten = Unit {0}
HasWriteCause (Some ends.OutOfMemory) unwritten = Unit {0}

-- all that a session was told is kept, or no more of it was written than what is
abbrev pub WroteKept : Option (List ℕ) → Dialogue → Type 0
WroteKept written d = (d.kept ≡ d.texts) ⊎ IfSome written (λ bytes. length bytes ≤ length d.kept)

-- A connection has exchanged the dialogue of its session so far, and has ended so, if it has. It may give at most `limit` bytes,
-- of which `room` are left.
pub record Exchanges (long : List ℕ) (ending : Option Ending) (t : Traffic) (limit room : ℕ) (held owed : List ℕ) (d : Dialogue) : Type 0 where
  pub carries : Carries long ending t held owed d
  pub within : KeepsLimit ending limit room t.given
  pub may_be_open : MayBeOpen ending d.is_open
  pub read_cause : HasReadCause ending t.unread
  pub write_cause : HasWriteCause ending t.unwritten
  pub kept : WroteKept t.written d

-- how a connection ended in a call that answers an error where it did
abbrev pub ending_of : {T : Type 0} → Result T Ending → Option Ending
ending_of (Ok x) = None
ending_of (Err ending) = Some ending

-- a connection has ended by itself, if it has, and not since its loop has halted
abbrev pub EndsItself : Option Ending → Type 0
EndsItself None = Unit {0}
EndsItself (Some ends.Bye) = Unit {0}
EndsItself (Some ends.End) = Unit {0}
EndsItself (Some ends.LinkRead) = Unit {0}
EndsItself (Some ends.LinkWrite) = Unit {0}
EndsItself (Some ends.TooMuch) = Unit {0}
EndsItself (Some ends.TooLong) = Unit {0}
EndsItself (Some ends.OutOfMemory) = Unit {0}
EndsItself (Some (ends.Halted halt)) = ⊥
