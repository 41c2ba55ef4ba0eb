-- How the rows of a page lie in memory.
use Rattle.std.specs.Prelude.{List}
use Rattle.ifdb_row.specs.declared.row.Row.{Row}
use Rattle.ifdb_store.specs.declared.page.Layout.{Layout}
use Rattle.ifdb_store.specs.declared.page.Layout.TheVariants.{Even, Loose}

-- the rows that are laid out so
abbrev pub rows_laid : Layout → List Row
rows_laid (Even rows) = rows
rows_laid (Loose rows) = rows
