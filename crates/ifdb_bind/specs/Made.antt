-- What CREATE TABLE and CREATE VIEW come to, said of what is to be made.
use Rattle.std.specs.Prelude.{ℕ, Result}
use Rattle.ifdb_bound.specs.declared.request.Bound.{Bound}
use Rattle.ifdb_bound.specs.declared.request.Bound.TheVariants as b
use Rattle.ifdb_bound.specs.declared.request.Change.TheVariants as change
use Rattle.ifdb_wire.specs.declared.fault.Fault.{Fault}
use Rattle.ifdb_catalog.specs.Public.{Public}
use Rattle.ifdb_catalog.specs.Binding.{create_table, create_view}
use Rattle.ifdb_bind.specs.declared.tables.NewTable.{NewTable}
use Rattle.ifdb_bind.specs.declared.tables.TableKeys.{TableKeys}
use Rattle.ifdb_bind.specs.declared.views.NewView.{NewView}

-- CREATE TABLE of a table that is to be made
abbrev pub table_made : Public → ℕ → NewTable → Result Bound Fault
table_made p asker t = create_table p asker t.name t.columns t.key t.foreign

-- the change that makes the table, of its keys
abbrev pub table_of : ℕ → NewTable → TableKeys → Bound
table_of asker t keys = b.Change (change.Table asker (record {
  name = t.name;
  columns = t.columns;
  key = keys.key;
  foreign = keys.foreign;
}))

-- CREATE VIEW of a view that is to be made
abbrev pub view_made : Public → ℕ → NewView → Result Bound Fault
view_made p asker v = create_view p asker v.name v.select v.tags
