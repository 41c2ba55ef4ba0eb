-- decides: the journal
-- What a kept run of a script did: what it read, what it wrote of what it was told, and what the disk holds.
use Rattle.std.specs.Prelude.{◌≡◌, ℕ, ◌<◌, ◌≤◌, List, [], ◌∷◌, ◌++◌, length, take, Option}
use Rattle.std.specs.Io.KnownBytes.{Appends, Consumes, IsAtEnd}
use Rattle.ifdb_io.specs.Lines.{IsLine}
use Rattle.ifdb_disk.specs.Clock.{Clock, Leaves}
use Rattle.ifdb_journal.specs.Reading.{HasAllOrNone}
use Rattle.ifdb_journal.specs.declared.record.Record.{Record}
use Rattle.ifdb_model.specs.Run.{Step, Told}
use Rattle.ifdb_model.specs.Output.{texts, text_of}
use Rattle.ifdb_script.specs.Run.{AreWholeLines}
use Rattle.ifdb_keep.specs.Resumed.{front_of, AllHave, Journaled}
use Rattle.ifdb_keep.specs.Taken.{told_by, records_by, AreTaken}

-- The journal had these records, and each image has them now, a restart, if there were any, and the records of these steps.
-- At each moment since the journal was read each image has them, and the first of the steps' records.
pub record Kept (before : List Record) (done : List Step) (old new : Option Clock) : Type 0 where
  pub journal : Journaled before (records_by before done) old new
  pub now : AllHave (front_of before ++ records_by before done) new

-- Of the bytes that were taken these steps are those of the whole lines. A last piece, which has no newline and isn't too long for a
-- line, is left off.
pub record AreOfLines (before : List Record) (taken : List ℕ) (done : List Step) : Type 0 where
  pub lines : List ℕ
  pub piece : List ℕ
  pub all : taken ≡ lines ++ piece
  pub whole : AreWholeLines lines
  pub left_off : IsLine piece
  pub steps : AreTaken before lines done []

-- The input was read to its end, within the limit; each of its steps was taken and kept, and what they were told was written.
pub record KeptWhole (limit : ℕ) (left_old left_new written_old written_new : Option (List ℕ)) (disk_old disk_new : Option Clock) : Type 0 where
  pub before : List Record
  pub input : List ℕ
  pub done : List Step
  pub read : Consumes left_old left_new input
  pub ended : IsAtEnd left_new
  pub within : length input ≤ limit
  pub steps : AreTaken before input done []
  pub wrote : Appends written_old written_new (texts (told_by before done))
  pub disk : Kept before done disk_old disk_new

-- Reading failed: so it is with the whole lines that were taken.
pub record KeptFront (limit : ℕ) (left_old left_new written_old written_new : Option (List ℕ)) (disk_old disk_new : Option Clock) : Type 0 where
  pub before : List Record
  pub taken : List ℕ
  pub done : List Step
  pub read : Consumes left_old left_new taken
  pub within : length taken ≤ limit
  pub steps : AreOfLines before taken done
  pub wrote : Appends written_old written_new (texts (told_by before done))
  pub disk : Kept before done disk_old disk_new

-- The input has more bytes than the limit: so it is with the whole lines of the bytes within it, and one byte more was taken.
pub record KeptPast (limit : ℕ) (left_old left_new written_old written_new : Option (List ℕ)) (disk_old disk_new : Option Clock) : Type 0 where
  pub before : List Record
  pub taken : List ℕ
  pub past : ℕ
  pub done : List Step
  pub read : Consumes left_old left_new (taken ++ past ∷ [])
  pub full : length taken ≡ limit
  pub steps : AreOfLines before taken done
  pub wrote : Appends written_old written_new (texts (told_by before done))
  pub disk : Kept before done disk_old disk_new

-- Writing failed: the first steps of the input were taken and kept, all that they were told was written but for the last reply, and of
-- that a front.
pub record KeptCut (limit : ℕ) (left_old left_new written_old written_new : Option (List ℕ)) (disk_old disk_new : Option Clock) : Type 0 where
  pub before : List Record
  pub input : List ℕ
  pub done : List Step
  pub rest : List Step
  pub told : List Told
  pub last : Told
  pub n : ℕ
  pub read : Consumes left_old left_new input
  pub within : length input ≤ limit
  pub steps : AreTaken before input done rest
  pub heard : told_by before done ≡ told ++ last ∷ []
  pub short : n < length (text_of last)
  pub wrote : Appends written_old written_new (texts told ++ take n (text_of last))
  pub disk : Kept before done disk_old disk_new

-- The disk failed at a step that has a record: the steps before it were taken and kept, and what they were told was written. From a moment
-- on, at which their records were there, each image has them, and may have that of the step.
pub record KeptShort (limit : ℕ) (left_old left_new written_old written_new : Option (List ℕ)) (disk_old disk_new : Option Clock) : Type 0 where
  pub before : List Record
  pub input : List ℕ
  pub done : List Step
  pub step : Step
  pub rest : List Step
  pub entry : Record
  pub read : Consumes left_old left_new input
  pub within : length input ≤ limit
  pub steps : AreTaken before input done (step ∷ rest)
  pub wrote : Appends written_old written_new (texts (told_by before done))
  pub journal : Journaled before (records_by before (done ++ step ∷ [])) disk_old disk_new
  pub entered : records_by before (done ++ step ∷ []) ≡ records_by before done ++ entry ∷ []
  pub last : Option Clock
  pub kept : AllHave (front_of before ++ records_by before done) last
  pub since : Leaves last disk_new (HasAllOrNone (front_of before ++ records_by before done) (entry ∷ []))
