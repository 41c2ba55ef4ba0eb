use Rattle.std.proofs.Common.{◌^◌, ◌-◌, List, ℕ}
use Rattle.ifdb_log.specs.Reading.{HasRead}
use Rattle.test_log.proofs.tests.served.read_to_end.Given as goal

abbrev pub invariant-texts : goal.invariant-texts
invariant-texts g l = (texts : List (List ℕ)) × HasRead (g.D.Disk.tells l.disk) texts l.log.place

abbrev pub decreases-texts : goal.decreases-texts
decreases-texts g l = 2 ^ 62 - l.log.place.at
