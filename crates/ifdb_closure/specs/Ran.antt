-- decides: closures
-- What a run of a script with closures did: what it read, what it was told, and what it wrote of that.
use Rattle.std.specs.Prelude.{◌≡◌, ℕ, ◌<◌, ◌≤◌, true, List, [], ◌∷◌, ◌++◌, length, take, drop, Option, if◌then◌else◌}
use Rattle.std.specs.List.{list_all}
use Rattle.std.specs.Io.KnownBytes.{Appends, Consumes, IsAtEnd}
use Rattle.ifdb_io.specs.Lines.{IsLine}
use Rattle.ifdb_model.specs.Run.{Step, asks, Told}
use Rattle.ifdb_model.specs.Script.{steps_of}
use Rattle.ifdb_model.specs.Output.{texts, text_of}
use Rattle.ifdb_laws.specs.Scripts.{none_reads_memory}
use Rattle.ifdb_framing.specs.Framing.{is_framed}
use Rattle.ifdb_script.specs.Run.{AreWholeLines}
use Rattle.ifdb_closure.specs.Closures.{World, start, turn, after_turn, next_world}
use Rattle.ifdb_closure.specs.Lacking.{Memory, turn_with, told_with, closure_output}
use Rattle.ifdb_closure.specs.Levels.{closure_asked, closure_low, closure_heard, closure_quiet}
use Rattle.ifdb_closure.specs.Speaking.{speech}
use Rattle.ifdb_closure.specs.Standing.{IsToldAt}

-- each of these steps that lacked memory was told error 20
abbrev pub AreTold : World → List Memory → List Step → Type 0
AreTold w [] steps = Unit {0}
AreTold w (m ∷ memory) [] = Unit {0}
AreTold w (m ∷ memory) (step ∷ steps) =
    IsToldAt m (turn_with speech w m step).told × AreTold (after_turn speech w (turn_with speech w m step)) memory steps

-- a script was told this, where memory was refused at exactly the steps whose replies read error 20
pub record IsTold (input : List ℕ) (told : List Told) : Type 0 where
  pub memory : List Memory
  pub each : length memory ≡ length (steps_of input)
  pub all : told ≡ told_with speech start memory (steps_of input)
  pub exact : AreTold start memory (steps_of input)

-- a script was told this at first, and the rest would follow with no refusal
pub record IsToldFirst (input : List ℕ) (told : List Told) : Type 0 where
  pub memory : List Memory
  pub rest : List Told
  pub all : told ++ rest ≡ told_with speech start memory (steps_of input)
  pub exact : AreTold start memory (steps_of input)

-- A script was told this of the whole lines among the bytes that were taken. A last piece, which has no newline and isn't
-- too long for a line, is left off.
pub record IsToldOfLines (taken : List ℕ) (told : List Told) : Type 0 where
  pub lines : List ℕ
  pub piece : List ℕ
  pub all : taken ≡ lines ++ piece
  pub whole : AreWholeLines lines
  pub left_off : IsLine piece
  pub played : IsTold lines told

-- The input was read to its end, within the limit, and what the script was told was written.
pub record RanWhole (limit : ℕ) (left_old left_new written_old written_new : Option (List ℕ)) : Type 0 where
  pub input : List ℕ
  pub told : List Told
  pub read : Consumes left_old left_new input
  pub ended : IsAtEnd left_new
  pub within : length input ≤ limit
  pub played : IsTold input told
  pub wrote : Appends written_old written_new (texts told)

-- Reading failed: what was written is what the script was told of the whole lines that were taken, each reply in full.
pub record RanFront (limit : ℕ) (left_old left_new written_old written_new : Option (List ℕ)) : Type 0 where
  pub taken : List ℕ
  pub told : List Told
  pub read : Consumes left_old left_new taken
  pub within : length taken ≤ limit
  pub played : IsToldOfLines taken told
  pub wrote : Appends written_old written_new (texts told)

-- The input has more bytes than the limit: so it is with the bytes within it, and one byte more was taken.
pub record RanPast (limit : ℕ) (left_old left_new written_old written_new : Option (List ℕ)) : Type 0 where
  pub taken : List ℕ
  pub past : ℕ
  pub told : List Told
  pub read : Consumes left_old left_new (taken ++ past ∷ [])
  pub full : length taken ≡ limit
  pub played : IsToldOfLines taken told
  pub wrote : Appends written_old written_new (texts told)

-- Writing failed: what was written are the first replies, each in full, and then a front of the next one.
pub record RanCut (limit : ℕ) (left_old left_new written_old written_new : Option (List ℕ)) : Type 0 where
  pub input : List ℕ
  pub told : List Told
  pub last : Told
  pub n : ℕ
  pub read : Consumes left_old left_new input
  pub within : length input ≤ limit
  pub played : IsToldFirst input (told ++ last ∷ [])
  pub short : n < length (text_of last)
  pub wrote : Appends written_old written_new (texts told ++ take n (text_of last))

-- ---- what the bytes say

-- The input was run whole, and the bytes alone say what was told: where memory is refused at other steps and yet the same bytes are
-- written, the same is told. So the list of the replies that read error 20 is a function of what was read and written.
abbrev pub IsToldByBytes : ℕ → Option (List ℕ) → Option (List ℕ) → Option (List ℕ) → Option (List ℕ) → Type 0
IsToldByBytes limit left_old left_new written_old written_new =
    (ran : RanWhole limit left_old left_new written_old written_new)
    × ((memory : List Memory) → closure_output speech ran.input memory ≡ texts ran.told → told_with speech start memory (steps_of ran.input) ≡ ran.told)

-- The input was run whole, and no line of a reply holds a newline: nobody's text or name forges a line of the protocol.
abbrev pub IsFramedRun : ℕ → Option (List ℕ) → Option (List ℕ) → Option (List ℕ) → Option (List ℕ) → Type 0
IsFramedRun limit left_old left_new written_old written_new =
    (ran : RanWhole limit left_old left_new written_old written_new) × (list_all is_framed ran.told ≡ true)

-- ---- two worlds

-- of what a script's steps were told, one behind the other, what those asked inside a level were told
abbrev pub closure_picked : List ℕ → World → List Step → List Told → List Told
closure_picked level w [] all = []
closure_picked level w (step ∷ steps) all =
    (if closure_asked level w step then take (length (turn speech w step).told) all else [])
    ++ closure_picked level (next_world speech w step) steps (drop (length (turn speech w step).told) all)

-- Two scripts agree below a level, and neither has a step that crosses it.
pub record AgreeBelow (level : List ℕ) (xs ys : List Step) : Type 0 where
  pub first : closure_quiet speech level start xs ≡ true
  pub second : closure_quiet speech level start ys ≡ true
  pub same : closure_low speech level start xs ≡ closure_low speech level start ys

-- A script was told this. For each level, and each other script that agrees with it below the level, what is told inside is in
-- bytes what the other script has those inside hear.
abbrev pub IsHeardAlike : List ℕ → List Told → Type 0
IsHeardAlike input told = (level other : List ℕ) → AgreeBelow level (steps_of input) (steps_of other)
    → texts (closure_picked level start (steps_of input) told) ≡ texts (closure_heard speech level start (steps_of other))

-- The input was run whole, and where no reply reads error 20, each other script that agrees with this one below a level gives
-- those inside it the bytes that they were given here.
abbrev pub KeepsLevels : ℕ → Option (List ℕ) → Option (List ℕ) → Option (List ℕ) → Option (List ℕ) → Type 0
KeepsLevels limit left_old left_new written_old written_new =
    (ran : RanWhole limit left_old left_new written_old written_new) × (none_reads_memory ran.told ≡ true → IsHeardAlike ran.input ran.told)

-- ---- error 20

-- Error 20 comes of refused memory alone: a line whose step has its memory is told no want of it, in whatever world. So the steps of a
-- script that are told it are those that lacked memory, and no others.
abbrev pub MemoryIsRefusedAlone : Type 0
MemoryIsRefusedAlone = (w : World) (n : ℕ) (line : List ℕ) → none_reads_memory (turn speech w (asks n line)).told ≡ true
