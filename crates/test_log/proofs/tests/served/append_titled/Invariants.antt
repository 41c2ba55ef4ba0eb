use Rattle.std.specs.Prelude.{Some}
use Rattle.ifdb_disk.specs.Memory.{clock_of}
use Rattle.ifdb_log.specs.Behind.{behind}
use Rattle.ifdb_log.specs.Reading.{held}
use Rattle.test_log.proofs.tests.served.append_titled.Given as goal

abbrev pub ghosts-append_named : goal.ghosts-append_named
ghosts-append_named g a = record { table = a.opened.table.shared.table_id; before = held (behind a.disk.size (Some (clock_of a.disk.disk))) }
