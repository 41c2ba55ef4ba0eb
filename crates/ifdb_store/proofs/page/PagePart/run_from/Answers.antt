use Rattle.std.proofs.Common.{◌∙◌, ap, sym, drop}
use Rattle.ifdb_row.specs.declared.row.Row.{Row}
use Rattle.ifdb_row.specs.Edges.{lies_before}
use Rattle.ifdb_row.specs.Questions.{rows_from}
use Rattle.ifdb_row.specs.Runs.{rows_in}
use Rattle.ifdb_row.proofs.Edges.{edge_falls}
use Rattle.ifdb_row.proofs.Rising.{parted}
use Rattle.ifdb_row.proofs.Reaches.{skip_is}
use Rattle.ifdb_store.proofs.FindLemmas.{whole_run, same_run}
use Rattle.ifdb_store.proofs.page.PagePart.run_from.Goals as goal

pub count_before-requires : goal.count_before-requires
count_before-requires g c = parted (lies_before c.args.edge.now) (edge_falls c.args.edge.now) (rows_in c.rows-rows.result) c.rows-rows.ensures.rising

pub returns-clause-run : goal.returns-clause-run
returns-clause-run g c =
    let p = λ (r : Row). lies_before c.args.edge.now r.slot in
    let rows = rows_in c.rows-rows.result in
    let is = c.from.ensures ∙ (ap (λ n. drop n rows) c.count_before.ensures.reach ∙ (sym (skip_is p rows) ∙ ap (rows_from c.args.edge.now) c.rows-rows.ensures.rows)) in
    same_run (rows_in c.from.result) (rows_in c.from.result) (rows_from c.args.edge.now c.args.self.now) is (whole_run (rows_in c.from.result))
