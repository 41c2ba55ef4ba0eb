use Rattle.std.proofs.Common.{◌≡◌, take, map}
use Rattle.ifdb_value.specs.declared.value.ValueKind.TheVariants as kind
use Rattle.ifdb_bound.specs.Kinds.{item_kind}
use Rattle.ifdb_catalog.specs.Scope.{kind_or, kinds_in}
use Rattle.ifdb_select.proofs.sources.item_kinds.Given as goal

-- the kinds of the items so far
abbrev pub invariant-loop-item : goal.invariant-loop-item
invariant-loop-item l = l.kinds ≡ map (λ i. kind_or kind.Int (item_kind (kinds_in l.scope) i)) (take l.item-index l.items)
