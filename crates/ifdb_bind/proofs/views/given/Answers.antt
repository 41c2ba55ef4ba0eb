use Rattle.std.proofs.Common.{arith}
use Rattle.ifdb_bind.proofs.ViewChecks.{given_grow}
use Rattle.ifdb_bind.proofs.views.given.Goals as goal

pub loop-output-preserved : goal.loop-output-preserved
loop-output-preserved c =
    given_grow c.loop-output.names c.add_given.new.names c.args.outputs.now c.loop-output.output-index c.output-item.result (omega arith)
    c.output-item.is c.loop-output.invariant c.in_ok-add_given.ensures
