use Rattle.std.proofs.Common.{◌∙◌, sym, subst}
use Rattle.std.specs.Prelude.{None}
use Rattle.ifdb_row.specs.declared.row.Row.{Row}
use Rattle.ifdb_row.specs.Edges.{lies_before}
use Rattle.ifdb_row.specs.Questions.{IsRun}
use Rattle.ifdb_row.specs.Ranges.{is_below, is_within, rows_within}
use Rattle.ifdb_row.specs.Reach.{skip}
use Rattle.ifdb_row.specs.Runs.{rows_in}
use Rattle.ifdb_row.proofs.Edges.{edge_falls}
use Rattle.ifdb_row.proofs.Reaches.{leading_is}
use Rattle.ifdb_row.proofs.Questions.{skip_parted, parted_run, run_of}
use Rattle.ifdb_row.proofs.Ranges.{first_same, first_down}
use Rattle.ifdb_row.proofs.rows.Rows.first_within.Goals as goal

pub below-requires : goal.below-requires
below-requires g c =
    let t = c.args.table in
    let x = c.args.range.now in
    let rows = g.Self.Rows.rows c.args.self.now in
    let p = λ (r : Row). lies_before c.edge.result r.slot in
    let run : IsRun (rows_in c.run_from.result) (skip p rows) = c.run_from.ensures.run in
    parted_run (is_below t x) _ _ run
    (skip_parted p (is_below t x) (is_within t x None) (λ r. first_same t x p (λ s. c.edge.ensures s.slot) r) (λ r s. edge_falls c.edge.result r.slot s.slot) (λ r s h e u. first_down t x p (λ s. c.edge.ensures s.slot) r s h e u) rows c.run_from.ensures.rising)

pub returns-clause-run : goal.returns-clause-run
returns-clause-run g c =
    let t = c.args.table in
    let x = c.args.range.now in
    let rows = g.Self.Rows.rows c.args.self.now in
    let p = λ (r : Row). lies_before c.edge.result r.slot in
    let run : IsRun (rows_in c.run_from.result) (skip p rows) = c.run_from.ensures.run in
    let all = run_of p (is_below t x) (is_within t x None) (λ r. first_same t x p (λ s. c.edge.ensures s.slot) r) (λ r s. edge_falls c.edge.result r.slot s.slot) (λ r s h e u. first_down t x p (λ s. c.edge.ensures s.slot) r s h e u) (rows_in c.run_from.result) rows c.run_from.ensures.rising run in
    subst (λ xs. IsRun xs (rows_within t x None rows)) (sym (leading_is (is_below t x) (rows_in c.run_from.result)) ∙ sym c.below.ensures) all
