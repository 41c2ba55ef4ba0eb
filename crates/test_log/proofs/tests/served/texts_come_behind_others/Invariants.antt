use Rattle.std.specs.Prelude.{Some}
use Rattle.ifdb_disk.specs.Memory.{clock_of}
use Rattle.test_log.proofs.tests.served.texts_come_behind_others.Given as goal

abbrev pub ghosts-append_titled : goal.ghosts-append_titled
ghosts-append_titled g a = record { begun = Some (clock_of a.disk) }
