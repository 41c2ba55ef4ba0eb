use Rattle.std.proofs.Common.{◌≡◌, take, map, true}
use Rattle.std.specs.List.{list_all}
use Rattle.ifdb_syntax.specs.declared.select.Source.{Source}
use Rattle.ifdb_catalog.specs.Queries.{bound_source, is_relation}
use Rattle.ifdb_select.proofs.queries.bound_sources.Given as goal

-- the sources so far are known, and have their numbers
abbrev pub invariant-loop-from : goal.invariant-loop-from
invariant-loop-from l = record {
  known : list_all (λ (x : Source). is_relation l.catalog x.name) (take l.from-index l.sources) ≡ true;
  bound : l.bound ≡ map (bound_source l.catalog) (take l.from-index l.sources);
}
