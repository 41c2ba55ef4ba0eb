use Rattle.ifdb_select.proofs.OutputNames.{names_grow}
use Rattle.std.proofs.Common.{arith}
use Rattle.ifdb_select.proofs.outputs.add_all.Goals as goal

pub loop-source-preserved : goal.loop-source-preserved
loop-source-preserved c =
    names_grow c.args.names.now c.loop-source.names c.add_names.new.names c.args.scope.now c.loop-source.source-index c.source-item.result (omega arith)
    c.source-item.is c.loop-source.invariant c.in_ok-add_names.ensures
