use Rattle.std.proofs.Common.{◌≡◌, ◌^◌, ◌-◌}
use Rattle.ifdb_restart.proofs.Restarting.{IsSoFar}
use Rattle.ifdb_restart.proofs.going_on.make_again.Given as goal

abbrev pub invariant-texts : goal.invariant-texts
invariant-texts g l = record {
  so : IsSoFar (g.D.Disk.tells l.disk) l.log.place l.room l.made.items;
  still : g.D.Disk.tells l.disk ≡ g.D.Disk.tells l.fn.disk;
  calm : g.D.Disk.faults l.disk ≡ g.D.Disk.faults l.fn.disk;
}

abbrev pub decreases-texts : goal.decreases-texts
decreases-texts g l = 2 ^ 62 - l.log.place.at
