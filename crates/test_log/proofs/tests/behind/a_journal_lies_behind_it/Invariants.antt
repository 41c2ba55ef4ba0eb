use Rattle.std.specs.Prelude.{Some}
use Rattle.ifdb_disk.specs.Memory.{clock_of}
use Rattle.test_log.proofs.tests.behind.a_journal_lies_behind_it.Given as goal

abbrev pub ghosts-add_behind : goal.ghosts-add_behind
ghosts-add_behind g a = record { begun = Some (clock_of a.disk) }
