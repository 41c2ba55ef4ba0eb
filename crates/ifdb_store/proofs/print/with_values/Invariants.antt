use Rattle.std.proofs.Common.{◌≡◌, take}
use Rattle.std.specs.List.{fold}
use Rattle.ifdb_store.specs.Links.{with_value}
use Rattle.ifdb_store.proofs.print.with_values.Given as goal

abbrev pub invariant-loop-value : goal.invariant-loop-value
invariant-loop-value l = l.longer ≡ fold with_value l.print (take l.value-index l.values)
