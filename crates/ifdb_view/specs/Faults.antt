-- What the answer of a SELECT tells.
use Rattle.std.specs.Prelude.{◌≡◌, ⊤, List, Option, Some, None, Result, Ok, Err}
use Rattle.ifdb_value.specs.declared.value.Value.{Value}
use Rattle.ifdb_expr.specs.declared.fault.ExprFault.{ExprFault}
use Rattle.ifdb_expr.specs.declared.fault.ExprFault.TheVariants as expr
use Rattle.ifdb_expr.specs.Query.{QueryFault, view_authority, out_of_range}
use Rattle.ifdb_view.specs.declared.fault.ViewFault.{ViewFault}
use Rattle.ifdb_view.specs.declared.fault.ViewFault.TheVariants as fault

-- a fault of an expression as one of a SELECT
abbrev pub as_view_fault : ExprFault → ViewFault
as_view_fault expr.OutOfRange = fault.OutOfRange
as_view_fault expr.OutOfMemory = fault.OutOfMemory

-- the answer is the rows or the refusal that there is; want of memory may come instead
abbrev pub TellsQuery : Result (List (List Value)) QueryFault → Result (List (List Value)) ViewFault → Type 0
TellsQuery q (Ok rows) = q ≡ Ok rows
TellsQuery q (Err fault.ViewAuthority) = q ≡ Err view_authority
TellsQuery q (Err fault.OutOfRange) = q ≡ Err out_of_range
TellsQuery q (Err fault.OutOfMemory) = ⊤

-- the answer stands for the value by f, or says out of range exactly where there is none
abbrev pub TellsBy : {A B : Type 0} → (A → B) → Option B → Result A ExprFault → Type 0
TellsBy f o (Ok x) = o ≡ Some (f x)
TellsBy f o (Err expr.OutOfRange) = o ≡ None
TellsBy f o (Err expr.OutOfMemory) = ⊤
