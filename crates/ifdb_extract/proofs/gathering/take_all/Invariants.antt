use Rattle.std.proofs.Common.{◌≡◌, ◌^◌, ◌-◌}
use Rattle.ifdb_extract.proofs.Taking.{IsTaken}
use Rattle.ifdb_extract.proofs.gathering.take_all.Given as goal

abbrev pub invariant-texts : goal.invariant-texts
invariant-texts g l = record {
  so : IsTaken (g.D.Disk.tells l.disk) l.log.place l.extract;
  still : g.D.Disk.tells l.disk ≡ g.D.Disk.tells l.fn.disk;
  calm : g.D.Disk.faults l.disk ≡ g.D.Disk.faults l.fn.disk;
}

abbrev pub decreases-texts : goal.decreases-texts
decreases-texts g l = 2 ^ 62 - l.log.place.at
