use Rattle.std.proofs.Common.{arith}
use Rattle.ifdb_select.proofs.Starred.{columns_grow}
use Rattle.ifdb_select.proofs.queries.add_columns.Goals as goal

pub loop-column-preserved : goal.loop-column-preserved
loop-column-preserved c =
    columns_grow c.args.trees.now c.loop-column.trees c.push.new.self c.args.source c.loop-column.column c.args.from.now.columns (omega arith)
    c.loop-column.invariant c.in_ok-push.ensures.ok
