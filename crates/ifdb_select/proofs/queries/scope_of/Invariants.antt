use Rattle.std.proofs.Common.{◌≡◌, take, true}
use Rattle.std.specs.List.{list_all}
use Rattle.ifdb_syntax.specs.declared.select.Source.{Source}
use Rattle.ifdb_catalog.specs.Queries.{is_relation}
use Rattle.ifdb_catalog.specs.Scope.{scope_of}
use Rattle.ifdb_select.proofs.queries.scope_of.Given as goal

-- the sources so far are known, and have their columns
abbrev pub invariant-loop-from : goal.invariant-loop-from
invariant-loop-from l = record {
  known : list_all (λ (x : Source). is_relation l.catalog x.name) (take l.from-index l.sources) ≡ true;
  scope : l.scope ≡ scope_of l.catalog (take l.from-index l.sources);
}
