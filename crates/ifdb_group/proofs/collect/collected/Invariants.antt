use Rattle.std.proofs.Common.{◌≡◌, Option, Some, map, take}
use Rattle.std.specs.Fn.{FnReturnsAt}
use Rattle.ifdb_expr.specs.Tells.{Tells}
use Rattle.ifdb_group.proofs.collect.collected.Given as goal

-- each item so far has a value
abbrev pub invariant-loop-item : goal.invariant-loop-item
invariant-loop-item g l =
    (gives : g.row.X.Denot → Option g.row.T.Denot) → ((x : g.row.X.Denot) (r : _) → FnReturnsAt g.F.Fn l.fn.give x r → Tells (gives x) r) → map gives (take l.item-index l.items) ≡ map Some l.all
