use Rattle.std.proofs.Common.{◌≡◌, take, true}
use Rattle.std.specs.List.{list_all}
use Rattle.ifdb_catalog.specs.Queries.{stands_grouped}
use Rattle.ifdb_select.proofs.statement.stand_grouped.Given as goal

-- the items so far stand
abbrev pub invariant-loop-item : goal.invariant-loop-item
invariant-loop-item l = list_all (stands_grouped l.scope l.group) (take l.item-index l.items) ≡ true
