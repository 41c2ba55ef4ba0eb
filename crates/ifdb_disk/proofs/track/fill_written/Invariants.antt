use Rattle.std.proofs.Common.{◌≡◌, ◌≤◌, take, vec_len, vec_capacity}
use Rattle.ifdb_disk.specs.Images.{filled_from}
use Rattle.ifdb_disk.specs.Memory.{ranges_of}
use Rattle.ifdb_disk.proofs.track.fill_written.Given as goal

-- what the calls so far wrote is replaced
abbrev pub invariant-loop-call : goal.invariant-loop-call
invariant-loop-call l = record {
  items : l.bytes.items ≡ filled_from 0 (ranges_of (take l.call-index l.done)) l.fill l.fn.bytes.items;
  len : vec_len l.bytes ≡ vec_len l.fn.bytes;
  room : vec_capacity l.fn.bytes ≤ vec_capacity l.bytes;
}
