-- What is true of the rows that a request sees.
use Rattle.std.specs.Prelude.{Bool, ◌&&◌}
use Rattle.ifdb_row.specs.Content.{rising}
use Rattle.ifdb_model.specs.Session.{Seen}
use Rattle.ifdb_laws.specs.RowLaws.{rows_fit}

-- each row fits its table, and they stand by their slots
abbrev pub is_sound : Seen → Bool
is_sound x = rows_fit x && rising x.rows
