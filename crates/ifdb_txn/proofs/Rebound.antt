-- A row updated.
use Rattle.std.proofs.Common.{◌≡◌, List, ◌∙◌, ap, Some, None}
use Rattle.std.specs.Prelude.{Ok, Err}
use Rattle.ifdb_value.specs.declared.value.Value.{Value}
use Rattle.ifdb_row.specs.declared.slot.Slot.{Slot}
use Rattle.ifdb_row.specs.declared.row.Row.{Row}
use Rattle.ifdb_bound.specs.declared.schema.Schema.{Schema}
use Rattle.ifdb_bound.specs.declared.request.BoundAssignment.{BoundAssignment}
use Rattle.ifdb_wire.specs.declared.fault.Fault.TheVariants as fault
use Rattle.ifdb_model.specs.Writes.{Scene, rebound, assigned, update_one, update_to, updated, new_write}

module _ (x : Scene) (schema : Schema) (sets : List BoundAssignment) (r : Row) where
  pub updated_is : (values : List Value) (refs : List Slot) → assigned r.values sets ≡ Some values → rebound x sets r.values values schema.foreign r.refs ≡ Some refs → update_one x schema sets r ≡ Ok (new_write r.slot values refs)
  updated_is values refs a b = ap (update_to x schema sets r) a ∙ ap (updated r.slot values) b

  pub updated_range : assigned r.values sets ≡ None → update_one x schema sets r ≡ Err fault.OutOfRange
  updated_range a = ap (update_to x schema sets r) a

  pub updated_ref : (values : List Value) → assigned r.values sets ≡ Some values → rebound x sets r.values values schema.foreign r.refs ≡ None → update_one x schema sets r ≡ Err fault.NoReference
  updated_ref values a b = ap (update_to x schema sets r) a ∙ ap (updated r.slot values) b
