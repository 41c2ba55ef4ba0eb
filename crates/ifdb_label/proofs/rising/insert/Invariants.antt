use Rattle.std.proofs.Common.{◌≡◌, ◌≤◌, ◌-◌, ◌++◌, length, take, drop}
use Rattle.ifdb_label.specs.Label.{with_tag}
use Rattle.ifdb_label.proofs.rising.insert.Given as goal

-- the tag's place is not before this one
abbrev pub invariant-loop-at : goal.invariant-loop-at
invariant-loop-at l = record {
  in_range : l.at ≤ length l.rising.items;
  front : take l.at l.rising.items ++ with_tag l.tag (drop l.at l.rising.items) ≡ with_tag l.tag l.rising.items;
}

abbrev pub decreases-loop-at : goal.decreases-loop-at
decreases-loop-at l = length l.rising.items - l.at
