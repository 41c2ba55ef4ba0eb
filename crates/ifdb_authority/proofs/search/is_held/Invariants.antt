use Rattle.std.proofs.Common.{◌-◌, ◌^◌}
use Rattle.ifdb_authority.proofs.Searched.{IsSearched}
use Rattle.ifdb_authority.proofs.search.is_held.Given as goal

abbrev pub invariant-loop-at : goal.invariant-loop-at
invariant-loop-at l = IsSearched l.tags l.authority l.above l.fn.p l.fn.tag l.found.keys l.at

-- a set has fewer elements than that
abbrev pub decreases-loop-at : goal.decreases-loop-at
decreases-loop-at l = 2 ^ 63 - l.at
