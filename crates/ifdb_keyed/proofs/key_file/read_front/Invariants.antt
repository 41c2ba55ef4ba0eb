use Rattle.std.proofs.Common.{◌≡◌, ◌≤◌, ◌-◌, take, length}
use Rattle.ifdb_disk.specs.Clock.{Now}
use Rattle.ifdb_keyed.proofs.key_file.read_front.Given as goal

-- so many bytes were read, which the disk has
abbrev pub invariant-loop-count : goal.invariant-loop-count
invariant-loop-count g l = record {
  within : l.count ≤ length l.buf;
  bytes : Now (g.D.Disk.tells l.fn.disk) (λ s. (take l.count l.buf ≡ take l.count s.bytes) × (l.count ≤ length s.bytes));
  still : g.D.Disk.tells l.disk ≡ g.D.Disk.tells l.fn.disk;
  calm : g.D.Disk.faults l.disk ≡ g.D.Disk.faults l.fn.disk;
}

abbrev pub decreases-loop-count : goal.decreases-loop-count
decreases-loop-count g l = length l.buf - l.count
