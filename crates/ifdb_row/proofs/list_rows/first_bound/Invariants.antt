use Rattle.std.proofs.Common.{◌≡◌, take}
use Rattle.std.specs.Prelude.{None}
use Rattle.ifdb_row.specs.ByReference.{option_slot, slot_of}
use Rattle.ifdb_row.specs.Questions.{row_bound_to}
use Rattle.ifdb_row.specs.Runs.{rows_in}
use Rattle.ifdb_row.proofs.list_rows.first_bound.Given as goal

abbrev pub invariant-loop-place : goal.invariant-loop-place
invariant-loop-place l = row_bound_to (slot_of l.slot) (option_slot l.after) (take l.place (rows_in l.rows)) ≡ None
