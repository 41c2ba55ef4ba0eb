-- Rows that stand under the key that their values give.
use Rattle.std.specs.Prelude.{Bool, List}
use Rattle.std.specs.List.{list_all}
use Rattle.ifdb_row.specs.declared.row.Row.{Row}
use Rattle.ifdb_row.specs.Slots.{is_same_key}
use Rattle.ifdb_catalog.specs.Public.{Public, table_at}
use Rattle.ifdb_plan.specs.Keys.{fields}
pub use Rattle.ifdb_plan.specs.Keys.{are_keyed, is_keyed}

-- each row has its key's values in the columns of its table's key
abbrev pub are_all_keyed : Public → List Row → Bool
are_all_keyed p rows = list_all (λ (r : Row). is_same_key r.slot.key (fields (table_at p r.slot.table).key r.values)) rows
