use Rattle.std.proofs.Common.{◌≡◌, take, true, [], ◌∷◌}
use Rattle.std.specs.List.{list_all}
use Rattle.ifdb_catalog.specs.Scope.{kinds_in}
use Rattle.ifdb_catalog.specs.Statements.{assignment_fits}
use Rattle.ifdb_bind.proofs.writes.assignments_fit.Given as goal

-- the assignments so far fit
abbrev pub invariant-loop-tree : goal.invariant-loop-tree
invariant-loop-tree l = list_all (assignment_fits l.target.columns (kinds_in (l.target ∷ []))) (take l.tree-index l.trees) ≡ true
