use Rattle.std.proofs.Common.{◌≡◌, take, true}
use Rattle.std.specs.Option.{is_some}
use Rattle.std.specs.List.{list_all}
use Rattle.ifdb_bound.specs.Kinds.{item_kind}
use Rattle.ifdb_catalog.specs.Scope.{kinds_in}
use Rattle.ifdb_select.proofs.statement.have_kinds.Given as goal

-- the items so far fit
abbrev pub invariant-loop-item : goal.invariant-loop-item
invariant-loop-item l = list_all (λ i. is_some (item_kind (kinds_in l.scope) i)) (take l.item-index l.items) ≡ true
