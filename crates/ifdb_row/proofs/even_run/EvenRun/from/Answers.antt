use Rattle.std.proofs.Common.{◌≤◌, ◌∙◌, ap, arith, drop, length}
use Rattle.ifdb_row.specs.Runs.{even_rows}
use Rattle.ifdb_row.proofs.EvenRows.{even_from, even_length, front_within}
use Rattle.ifdb_row.proofs.even_run.EvenRun.from.Goals as goal

pub split_at-requires : goal.split_at-requires
split_at-requires c =
    let r = c.args.self in
    let many = even_length r.key r.width r.heads.now r.refs.now r.cells.now in
    omega (arith, many, c.requires)

pub overflow_mul-count : goal.overflow_mul-count
overflow_mul-count c =
    let r = c.args.self in
    let many = even_length r.key r.width r.heads.now r.refs.now r.cells.now in
    let le : c.args.count ≤ length r.heads.now = omega (arith, many, c.requires) in
    let within = front_within c.args.count (length r.heads.now) r.width (length r.cells.now) le r.long in
    omega arith

pub split_at-requires-2 : goal.split_at-requires-2
split_at-requires-2 c =
    let r = c.args.self in
    let many = even_length r.key r.width r.heads.now r.refs.now r.cells.now in
    let le : c.args.count ≤ length r.heads.now = omega (arith, many, c.requires) in
    let within = front_within c.args.count (length r.heads.now) r.width (length r.cells.now) le r.long in
    omega arith

pub returns : goal.returns
returns c =
    let r = c.args.self in
    ap (λ heads. even_rows r.key r.width heads c.behind.result.now c.split_at-2.result.1.now) c.split_at.ensures.back
    ∙ (ap (λ refs. even_rows r.key r.width (drop c.args.count r.heads.now) refs c.split_at-2.result.1.now) c.behind.ensures
    ∙ (ap (λ cells. even_rows r.key r.width (drop c.args.count r.heads.now) (drop c.args.count r.refs.now) cells) c.split_at-2.ensures.back
    ∙ even_from r.key r.width c.args.count r.heads.now r.refs.now r.cells.now))
