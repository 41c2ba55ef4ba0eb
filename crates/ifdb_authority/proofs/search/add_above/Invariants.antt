use Rattle.std.proofs.Common.{take}
use Rattle.ifdb_authority.specs.Search.{IsExtended, is_above}
use Rattle.ifdb_authority.proofs.search.add_above.Given as goal

-- with the tags so far
abbrev pub invariant-loop-tag : goal.invariant-loop-tag
invariant-loop-tag l = IsExtended l.initial.found.keys l.found.keys (is_above l.tags (take l.tag-index l.above) l.of)
