-- The columns of a source, as the program keeps them.
use Rattle.std.specs.Prelude.{◌≡◌, List, length}
use Rattle.ifdb_value.specs.declared.column.Column.{Column}
use Rattle.ifdb_catalog.specs.Scope.{columns_of}
use Rattle.ifdb_select.specs.declared.scope.Listed.{Listed}
use Rattle.ifdb_select.specs.declared.scope.Listed.TheVariants as l

-- the columns: a table's, or those of a view's names and kinds
abbrev pub listed : Listed → List Column
listed (l.Table columns) = columns.now
listed (l.View names kinds) = columns_of names.now kinds

-- a view has as many kinds as names
abbrev pub are_even : Listed → Type 0
are_even (l.Table columns) = Unit {0}
are_even (l.View names kinds) = length names.now ≡ length kinds
