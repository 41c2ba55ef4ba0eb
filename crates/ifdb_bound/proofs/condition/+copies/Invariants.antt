use Rattle.std.proofs.Common.{◌≡◌, take}
use Rattle.ifdb_bound.proofs.condition.+copies.Given as goal

-- the copies of the members so far
abbrev pub invariant-copied_members-loop-member : goal.invariant-copied_members-loop-member
invariant-copied_members-loop-member l = l.copies ≡ take l.member-index l.member-items
