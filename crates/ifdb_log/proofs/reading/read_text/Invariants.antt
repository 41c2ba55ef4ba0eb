use Rattle.std.proofs.Common.{◌≡◌, ◌^◌, ◌-◌, ◌≤◌, List, ℕ}
use Rattle.ifdb_log.specs.Reading.{HasRead, HasReadUpTo, begun_of}
use Rattle.ifdb_log.proofs.reading.read_text.Given as goal

abbrev pub invariant-pieces : goal.invariant-pieces
invariant-pieces g l = record {
  read : (texts : List (List ℕ)) → HasRead (g.D.Disk.tells l.fn.disk) texts l.fn.journal → HasReadUpTo (g.D.Disk.tells l.disk) texts (begun_of l.is_begun l.text.items) l.journal;
  moves : l.fn.journal.at ≤ l.journal.at;
  still : g.D.Disk.tells l.disk ≡ g.D.Disk.tells l.fn.disk;
  calm : g.D.Disk.faults l.disk ≡ g.D.Disk.faults l.fn.disk;
}

abbrev pub decreases-pieces : goal.decreases-pieces
decreases-pieces g l = 2 ^ 62 - l.journal.at
