use Rattle.std.proofs.Common.{◌≡◌, take}
use Rattle.std.specs.List.{fold}
use Rattle.ifdb_store.specs.Links.{mixed}
use Rattle.ifdb_store.proofs.print.with_bytes.Given as goal

abbrev pub invariant-loop-byte : goal.invariant-loop-byte
invariant-loop-byte l = l.longer ≡ fold mixed l.print (take l.byte-index l.bytes)
