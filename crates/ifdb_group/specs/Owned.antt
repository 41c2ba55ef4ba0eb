-- Lists of values by reference.
use Rattle.std.specs.Prelude.{List, map}
use Rattle.std.specs.Global.{Vec}
use Rattle.ifdb_value.specs.declared.value.Value.{Value}
use Rattle.ifdb_expr.specs.declared.value_ref.ValueRef.{ValueRef}
use Rattle.ifdb_expr.specs.ByReference.{owned}

-- lists of values
abbrev pub Lists : Type 0
Lists = List (List Value)

-- the values that are referred to
abbrev pub all_owned : Vec ValueRef → List Value
all_owned key = map owned key.items
