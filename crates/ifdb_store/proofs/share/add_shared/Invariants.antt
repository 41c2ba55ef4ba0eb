use Rattle.std.proofs.Common.{◌≡◌, ◌≤◌, ◌+◌, ◌-◌, ◌++◌, take, length, vec_len}
use Rattle.std.specs.Prelude.{vec_capacity}
use Rattle.ifdb_store.proofs.share.add_shared.Given as goal

-- the items so far, and room for the others
abbrev pub invariant-loop-item : goal.invariant-loop-item
invariant-loop-item g l = record {
  items : l.out.items ≡ l.fn.out.items ++ take l.item-index l.items;
  room : vec_len l.out + (length l.items - l.item-index) ≤ vec_capacity l.out;
}
