use Rattle.std.proofs.Common.{◌∙◌, ap, sym, drop}
use Rattle.ifdb_row.specs.declared.row.Row.{Row}
use Rattle.ifdb_row.specs.Edges.{lies_before}
use Rattle.ifdb_row.specs.Runs.{rows_in}
use Rattle.ifdb_row.proofs.Edges.{edge_falls}
use Rattle.ifdb_row.proofs.Rising.{parted}
use Rattle.ifdb_row.proofs.Reaches.{skip_is}
use Rattle.ifdb_row.proofs.list_rows.rows_from.Goals as goal

pub count_passing-requires : goal.count_passing-requires
count_passing-requires c = parted (lies_before c.args.edge.now) (edge_falls c.args.edge.now) _ c.requires

pub returns : goal.returns
returns c =
    let p = λ (r : Row). lies_before c.args.edge.now r.slot in
    let rows = rows_in c.args.rows in
    c.from.ensures ∙ (ap (λ n. drop n rows) c.count_passing.ensures.count ∙ sym (skip_is p rows))
