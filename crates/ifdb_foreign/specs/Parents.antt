-- What the binding of a parent needs and tells.
use Rattle.std.specs.Prelude.{◌≡◌, ◌⊎◌, List, IsTrue, length, Option, Some, None, Result, Ok, Err}
use Rattle.ifdb_label.specs.Tags.{AreMade}
use Rattle.ifdb_row.specs.declared.row.Row.{Row}
use Rattle.ifdb_row.specs.Seen.{are_rows_made}
use Rattle.ifdb_wire.specs.declared.fault.Fault.{Fault}
use Rattle.ifdb_wire.specs.declared.fault.Fault.TheVariants.{OutOfMemory, NoReference}
use Rattle.ifdb_foreign.specs.declared.standpoint.Standpoint.{Standpoint}

-- the labels of the rows, the session's label and the tags to declassify are of made tags
pub record IsMade (from : Standpoint) (rows : List Row) : Type 0 where
  pub rows_made : IsTrue (are_rows_made (length from.tags.now) rows)
  pub label_made : AreMade (length from.tags.now) from.label.now
  pub given_made : AreMade (length from.tags.now) from.given.now

-- what is there is given; where nothing is, that is refused as NoReference; want of memory may come instead
abbrev pub Binds : {T : Type 0} → Option T → Result T Fault → Type 0
Binds o (Ok x) = o ≡ Some x
Binds o (Err f) = (f ≡ OutOfMemory) ⊎ ((f ≡ NoReference) × (o ≡ None))
