use Rattle.std.proofs.Common.{◌∙◌, sym, subst}
use Rattle.std.specs.Prelude.{nat_lt, ◌==◌, None}
use Rattle.ifdb_row.specs.declared.row.Row.{Row}
use Rattle.ifdb_row.specs.declared.edge.Edge.TheVariants as edge
use Rattle.ifdb_row.specs.Questions.{IsRun, is_later, later_rows}
use Rattle.ifdb_row.specs.Reach.{skip}
use Rattle.ifdb_row.specs.Runs.{rows_in}
use Rattle.ifdb_row.proofs.Edges.{edge_falls}
use Rattle.ifdb_row.proofs.Reaches.{leading_is}
use Rattle.ifdb_row.proofs.Questions.{table_same, table_down, skip_parted, parted_run, run_of}
use Rattle.ifdb_row.proofs.rows.Rows.first_run.Goals as goal

pub of_table-requires : goal.of_table-requires
of_table-requires g c =
    let t = c.args.table in
    let rows = g.Self.Rows.rows c.args.self.now in
    let run : IsRun (rows_in c.run_from.result) (skip (λ (r : Row). nat_lt r.slot.table t) rows) = c.run_from.ensures.run in
    parted_run (λ r. r.slot.table == t) _ _ run
    (skip_parted (λ r. nat_lt r.slot.table t) (λ r. r.slot.table == t) (is_later t None) (table_same t) (λ r s. edge_falls (edge.Table t) r.slot s.slot) (table_down t) rows c.run_from.ensures.rising)

pub returns-clause-run : goal.returns-clause-run
returns-clause-run g c =
    let t = c.args.table in
    let rows = g.Self.Rows.rows c.args.self.now in
    let run : IsRun (rows_in c.run_from.result) (skip (λ (r : Row). nat_lt r.slot.table t) rows) = c.run_from.ensures.run in
    let all = run_of (λ r. nat_lt r.slot.table t) (λ r. r.slot.table == t) (is_later t None) (table_same t) (λ r s. edge_falls (edge.Table t) r.slot s.slot) (table_down t) (rows_in c.run_from.result) rows c.run_from.ensures.rising run in
    subst (λ xs. IsRun xs (later_rows t None rows)) (sym (leading_is (λ r. r.slot.table == t) (rows_in c.run_from.result)) ∙ sym c.of_table.ensures) all
