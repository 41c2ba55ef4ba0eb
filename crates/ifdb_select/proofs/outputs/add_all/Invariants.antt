use Rattle.std.proofs.Common.{◌≡◌, ◌++◌, take, map, Some}
use Rattle.ifdb_catalog.specs.Queries.{all_names}
use Rattle.ifdb_select.proofs.outputs.add_all.Given as goal

-- the names of the sources so far stand behind those from before
abbrev pub invariant-loop-source : goal.invariant-loop-source
invariant-loop-source l = l.names ≡ l.initial.names ++ map Some (all_names (take l.source-index l.scope))
