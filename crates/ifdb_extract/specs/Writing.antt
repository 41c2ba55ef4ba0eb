-- Records on their way to a journal.
use Rattle.std.specs.Prelude.{◌≡◌, ℕ, List, [], ◌++◌, Option, ⊤}
use Rattle.ifdb_disk.specs.Clock.{Clock, Leaves}
use Rattle.ifdb_journal.specs.declared.record.Record.{Record}
use Rattle.ifdb_journal.specs.Reading.{Holds}

-- the place of a journal's closed gate, and the records that wait to be appended
pub record Writing : Type 0 where
  pub at : ℕ
  pub waiting : List Record

-- a disk holds the first of some records, and the others wait
abbrev pub IsWritten : Option Clock → Writing → List Record → Type 0
IsWritten t w rs = (front : List Record) × Holds t front w.at × (rs ≡ front ++ w.waiting)

-- whatever records there were, these were put behind them
abbrev pub Puts : List Record → Option Clock → Writing → Option Clock → Writing → Type 0
Puts more t w u v = (rs : List Record) → IsWritten t w rs → IsWritten u v (rs ++ more)

-- whatever records there were, they still are
abbrev pub Keeps : Option Clock → Writing → Option Clock → Writing → Type 0
Keeps t w u v = (rs : List Record) → IsWritten t w rs → IsWritten u v rs

-- whatever records there were, the disk holds them
abbrev pub Finishes : Option Clock → Writing → Option Clock → Type 0
Finishes t w u = (rs : List Record) → IsWritten t w rs → (at : ℕ) × Holds u rs at

-- what a disk shows goes on from what it showed before, whatever a crash leaves
abbrev pub GoesOn : Option Clock → Option Clock → Type 0
GoesOn t u = Leaves t u (λ image. ⊤)
