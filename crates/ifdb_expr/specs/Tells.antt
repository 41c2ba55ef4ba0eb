-- Answers where a number may be out of range.
use Rattle.std.specs.Prelude.{◌≡◌, ⊤, Option, Some, None, Result, Ok, Err}
use Rattle.ifdb_expr.specs.declared.fault.ExprFault.{ExprFault}
use Rattle.ifdb_expr.specs.declared.fault.ExprFault.TheVariants as fault

-- the answer is the value, or says out of range exactly where there is none; want of memory may come instead
abbrev pub Tells : {A : Type 0} → Option A → Result A ExprFault → Type 0
Tells o (Ok x) = o ≡ Some x
Tells o (Err fault.OutOfRange) = o ≡ None
Tells o (Err fault.OutOfMemory) = ⊤
