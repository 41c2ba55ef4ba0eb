use Rattle.std.proofs.Common.{List}
use Rattle.ifdb_journal.specs.declared.record.Record.{Record}
use Rattle.ifdb_journal.specs.Reading.{ReadTo}
use Rattle.test_journal.proofs.tests.support.read_all.Given as goal

abbrev pub invariant-loop : goal.invariant-loop
invariant-loop g l = record { read : (rs : List Record) × ReadTo (g.D.Disk.tells l.disk) rs l.journal }
