use Rattle.std.proofs.Common.{◌≡◌}
use Rattle.ifdb_keep.proofs.Resuming.{ReadSoFar}
use Rattle.ifdb_keep.proofs.resume.read_back.Given as goal

abbrev pub invariant-records : goal.invariant-records
invariant-records g l = record {
  back : ReadSoFar (g.D.Disk.tells l.disk) l.journal l.room l.any;
  still : g.D.Disk.tells l.disk ≡ g.D.Disk.tells l.fn.disk;
  faults : g.D.Disk.faults l.disk ≡ g.D.Disk.faults l.fn.disk;
}
