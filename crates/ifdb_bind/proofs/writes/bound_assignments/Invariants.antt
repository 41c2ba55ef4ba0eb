use Rattle.std.proofs.Common.{◌≡◌, take, map, true, [], ◌∷◌}
use Rattle.std.specs.List.{list_all}
use Rattle.ifdb_catalog.specs.Statements.{bound_assignment, is_known_assignment}
use Rattle.ifdb_bind.proofs.writes.bound_assignments.Given as goal

-- the assignments so far are known, and have their trees
abbrev pub invariant-loop-assignment : goal.invariant-loop-assignment
invariant-loop-assignment l = record {
  known : list_all (is_known_assignment l.target.columns (l.target ∷ [])) (take l.assignment-index l.assignments) ≡ true;
  trees : l.trees ≡ map (bound_assignment l.target.columns (l.target ∷ [])) (take l.assignment-index l.assignments);
}
