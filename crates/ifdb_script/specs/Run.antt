-- decides: scripts
-- What a run of a script did: what it read, what it was told, and what it wrote of that.
use Rattle.std.specs.Prelude.{◌≡◌, ◌⊎◌, ℕ, ◌==◌, ◌<◌, ◌≤◌, Bool, true, List, [], ◌∷◌, ◌++◌, length, take, Option, if◌then◌else◌}
use Rattle.std.specs.List.{list_all}
use Rattle.std.specs.Io.KnownBytes.{Appends, Consumes, IsAtEnd}
use Rattle.ifdb_io.specs.declared.lines.TheConstants.{LONGEST_LINE}
use Rattle.ifdb_io.specs.Lines.{IsLine}
use Rattle.ifdb_model.specs.Run.{Told}
use Rattle.ifdb_model.specs.Output.{output, texts, text_of, told_of, refusals}
use Rattle.ifdb_laws.specs.Scripts.{none_reads_memory, IsHeardAlike}
use Rattle.ifdb_db.specs.Reading.{read_line}
use Rattle.ifdb_framing.specs.Framing.{is_framed}

-- A script was told this, where memory was refused at exactly the steps whose replies read error 20.
abbrev pub IsTold : List ℕ → List Told → Type 0
IsTold input told = told ≡ told_of read_line input (refusals told)

-- A script was told this at first, and the rest would follow with no refusal.
abbrev pub IsToldFirst : List ℕ → List Told → Type 0
IsToldFirst input told = (rest : List Told) × (told ++ rest ≡ told_of read_line input (refusals told))

-- what stands behind the last newline, which is 10, of some bytes behind this piece
abbrev pub piece_behind : List ℕ → List ℕ → List ℕ
piece_behind piece [] = piece
piece_behind piece (b ∷ bytes) = if b == 10 then piece_behind [] bytes else piece_behind (piece ++ b ∷ []) bytes

-- each line is whole: nothing stands behind the last newline, or a line that is too long already
abbrev pub AreWholeLines : List ℕ → Type 0
AreWholeLines bytes = (piece_behind [] bytes ≡ []) ⊎ (LONGEST_LINE < length (piece_behind [] bytes))

-- A script was told this of the whole lines among the bytes that were taken. A last piece, which has no newline and isn't
-- too long for a line, is left off.
pub record IsToldOfLines (taken : List ℕ) (told : List Told) : Type 0 where
  pub lines : List ℕ
  pub piece : List ℕ
  pub all : taken ≡ lines ++ piece
  pub whole : AreWholeLines lines
  pub left_off : IsLine piece
  pub played : IsTold lines told

-- The input was read to its end, within the limit, and what the script was told was written.
pub record RanWhole (limit : ℕ) (left_old left_new written_old written_new : Option (List ℕ)) : Type 0 where
  pub input : List ℕ
  pub told : List Told
  pub read : Consumes left_old left_new input
  pub ended : IsAtEnd left_new
  pub within : length input ≤ limit
  pub played : IsTold input told
  pub wrote : Appends written_old written_new (texts told)

-- Reading failed: what was written is what the script was told of the whole lines that were taken, each reply in full.
pub record RanFront (limit : ℕ) (left_old left_new written_old written_new : Option (List ℕ)) : Type 0 where
  pub taken : List ℕ
  pub told : List Told
  pub read : Consumes left_old left_new taken
  pub within : length taken ≤ limit
  pub played : IsToldOfLines taken told
  pub wrote : Appends written_old written_new (texts told)

-- The input has more bytes than the limit: so it is with the bytes within it, and one byte more was taken.
pub record RanPast (limit : ℕ) (left_old left_new written_old written_new : Option (List ℕ)) : Type 0 where
  pub taken : List ℕ
  pub past : ℕ
  pub told : List Told
  pub read : Consumes left_old left_new (taken ++ past ∷ [])
  pub full : length taken ≡ limit
  pub played : IsToldOfLines taken told
  pub wrote : Appends written_old written_new (texts told)

-- Writing failed: what was written are the first replies, each in full, and then a front of the next one, which may itself
-- read error 20.
pub record RanCut (limit : ℕ) (left_old left_new written_old written_new : Option (List ℕ)) : Type 0 where
  pub input : List ℕ
  pub told : List Told
  pub last : Told
  pub n : ℕ
  pub read : Consumes left_old left_new input
  pub within : length input ≤ limit
  pub played : IsToldFirst input (told ++ last ∷ [])
  pub short : n < length (text_of last)
  pub wrote : Appends written_old written_new (texts told ++ take n (text_of last))

-- Cuts don't matter: two runs, each to its end, over the same bytes and with the same steps refused wrote the same bytes,
-- in whatever pieces their sources gave and their sinks took.
abbrev pub CutsDontMatter : Type 0
CutsDontMatter = (limit limit' : ℕ) (l0 l1 w0 w1 l0' l1' w0' w1' : Option (List ℕ)) (first : RanWhole limit l0 l1 w0 w1) (second : RanWhole limit' l0' l1' w0' w1')
    → first.input ≡ second.input → refusals first.told ≡ refusals second.told → texts first.told ≡ texts second.told

-- The input was run whole, and the bytes alone say what was told: where other steps are refused and yet the same bytes written,
-- the same is told. So the list of the replies that read error 20 is a function of what was read and written.
abbrev pub IsToldByBytes : ℕ → Option (List ℕ) → Option (List ℕ) → Option (List ℕ) → Option (List ℕ) → Type 0
IsToldByBytes limit left_old left_new written_old written_new =
    (ran : RanWhole limit left_old left_new written_old written_new)
    × ((flags : List Bool) → output read_line ran.input flags ≡ texts ran.told → told_of read_line ran.input flags ≡ ran.told)

-- The input was run whole, and no line of a reply holds a newline: nobody's text or name forges a line of the protocol.
abbrev pub IsFramedRun : ℕ → Option (List ℕ) → Option (List ℕ) → Option (List ℕ) → Option (List ℕ) → Type 0
IsFramedRun limit left_old left_new written_old written_new =
    (ran : RanWhole limit left_old left_new written_old written_new) × (list_all is_framed ran.told ≡ true)

-- Two worlds: the input was run whole, and what was told is what was written. Where none of it reads error 20, each other
-- script that agrees with this one below a level, neither with a step that crosses it, gives those inside it the bytes that
-- they were given here.
abbrev pub KeepsLevels : ℕ → Option (List ℕ) → Option (List ℕ) → Option (List ℕ) → Option (List ℕ) → Type 0
KeepsLevels limit left_old left_new written_old written_new =
    (ran : RanWhole limit left_old left_new written_old written_new) × (none_reads_memory ran.told ≡ true → IsHeardAlike read_line ran.input ran.told)

-- Error 20 comes of refused memory alone: a script whose steps all have their memory is told no want of it.
abbrev pub MemoryIsRefusedAlone : Type 0
MemoryIsRefusedAlone = (input : List ℕ) → none_reads_memory (told_of read_line input []) ≡ true
