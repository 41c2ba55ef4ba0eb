-- A row that is left without a parent, as code finds and names it.
use Rattle.std.specs.Prelude.{Bool, List, [], ◌∷◌, ◌&&◌, not, Option, Some, None}
use Rattle.ifdb_row.specs.declared.row.Row.{Row}
use Rattle.ifdb_row.specs.declared.write.Write.{Write}
use Rattle.ifdb_row.specs.ByReference.{slot_of}
use Rattle.ifdb_row.specs.Questions.{earlier, if_passes}
use Rattle.ifdb_row.specs.Writes.{is_written}
use Rattle.ifdb_row.specs.Verdict.{Witness, at_parent}
use Rattle.ifdb_foreign.specs.declared.broken.LeftRow.{LeftRow}

-- what shows that a row is left, if one is
abbrev pub shown_left : Option LeftRow → Option Witness
shown_left None = None
shown_left (Some l) = Some (at_parent (slot_of l.child) l.parent.now)

-- a row of before that passes, and whose slot isn't written
abbrev pub unwritten : List Write → (Row → Bool) → Row → Bool
unwritten ws q r = not (is_written ws r.slot) && q r

-- the first written row that passes
abbrev pub first_written : (Row → Bool) → List Write → Option Row
first_written q [] = None
first_written q (w ∷ ws) = earlier (if_passes q w.row) (first_written q ws)
