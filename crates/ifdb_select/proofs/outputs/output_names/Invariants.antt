use Rattle.std.proofs.Common.{◌≡◌, take}
use Rattle.std.specs.Prelude.{flat_map}
use Rattle.ifdb_catalog.specs.Queries.{output_names}
use Rattle.ifdb_select.proofs.outputs.output_names.Given as goal

-- the names of what the items so far give
abbrev pub invariant-loop-item : goal.invariant-loop-item
invariant-loop-item l = l.names ≡ flat_map (output_names l.scope) (take l.item-index l.items)
