use Rattle.std.proofs.Common.{◌∙◌, ap, arith}
use Rattle.ifdb_row.specs.Runs.{even_rows}
use Rattle.ifdb_row.proofs.EvenRows.{even_front, even_length}
use Rattle.ifdb_row.proofs.even_run.EvenRun.front.Goals as goal

pub split_at-requires : goal.split_at-requires
split_at-requires c =
    let r = c.args.self in
    let many = even_length r.key r.width r.heads.now r.refs.now r.cells.now in
    omega (arith, many, c.requires)

pub returns : goal.returns
returns c =
    let r = c.args.self in
    ap (λ heads. even_rows r.key r.width heads r.refs.now r.cells.now) c.split_at.ensures.front ∙ even_front r.key r.width c.args.count r.heads.now r.refs.now r.cells.now
