use Rattle.std.proofs.Common.{◌≡◌, take}
use Rattle.ifdb_catalog.specs.Definitions.{given}
use Rattle.ifdb_bind.proofs.views.given.Given as goal

-- the names of the outputs so far
abbrev pub invariant-loop-output : goal.invariant-loop-output
invariant-loop-output l = l.names ≡ given (take l.output-index l.outputs)
