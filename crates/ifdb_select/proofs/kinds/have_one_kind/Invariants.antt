use Rattle.std.proofs.Common.{◌≡◌, take, true}
use Rattle.std.specs.List.{list_all}
use Rattle.ifdb_bound.specs.Kinds.{has_one, item_kind}
use Rattle.ifdb_catalog.specs.Scope.{kinds_in}
use Rattle.ifdb_select.proofs.kinds.have_one_kind.Given as goal

-- the items so far are of one kind each
abbrev pub invariant-loop-item : goal.invariant-loop-item
invariant-loop-item l = list_all (λ i. has_one (item_kind (kinds_in l.scope) i)) (take l.item-index l.items) ≡ true
