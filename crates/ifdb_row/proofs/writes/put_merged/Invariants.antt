use Rattle.std.proofs.Common.{◌≡◌, ◌≤◌, ◌+◌, ◌++◌, true, length, vec_len}
use Rattle.std.specs.Prelude.{vec_capacity}
use Rattle.ifdb_row.specs.Writes.{are_rising, merged}
use Rattle.ifdb_row.proofs.writes.put_merged.Given as goal

abbrev pub invariant-loop-write : goal.invariant-loop-write
invariant-loop-write l = record {
  items : l.items.items ++ merged l.own.items l.later.items ≡ l.fn.items.items ++ merged l.fn.own.items l.fn.later.items;
  rising : are_rising l.own.items ≡ true;
  later_rising : are_rising l.later.items ≡ true;
  room : vec_len l.items + length l.own.items + length l.later.items ≤ vec_capacity l.items;
}

abbrev pub decreases-loop-write : goal.decreases-loop-write
decreases-loop-write l = length l.own.items + length l.later.items
