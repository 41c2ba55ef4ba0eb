use Rattle.std.proofs.Common.{◌≡◌, ◌≤◌, All, take}
use Rattle.std.specs.Vec.Iter.{into_iter_len}
use Rattle.ifdb_io.proofs.memory_site.are_within.Given as goal

-- the doors before the index are within the bound
abbrev pub invariant-loop-door : goal.invariant-loop-door
invariant-loop-door g l = record {
  most : All (λ door. into_iter_len door.coming ≤ l.links) (take l.door-index l.doors);
  none_out : All (λ door. door.out ≡ 0) (take l.door-index l.doors);
}
