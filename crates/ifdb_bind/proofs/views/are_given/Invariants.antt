use Rattle.std.proofs.Common.{◌≡◌, take, true}
use Rattle.std.specs.List.{list_all}
use Rattle.ifdb_catalog.specs.Definitions.{is_given}
use Rattle.ifdb_bind.proofs.views.are_given.Given as goal

-- the outputs so far have names
abbrev pub invariant-loop-output : goal.invariant-loop-output
invariant-loop-output l = list_all is_given (take l.output-index l.outputs) ≡ true
