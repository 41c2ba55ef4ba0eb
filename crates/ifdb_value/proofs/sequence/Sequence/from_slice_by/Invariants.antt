use Rattle.std.proofs.Common.{◌≡◌, take}
use Rattle.ifdb_value.proofs.sequence.Sequence.from_slice_by.Given as goal

-- the copies of the items so far
abbrev pub invariant-loop-item : goal.invariant-loop-item
invariant-loop-item g l = l.copies ≡ take l.item-index l.items
