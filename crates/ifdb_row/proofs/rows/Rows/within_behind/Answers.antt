use Rattle.std.proofs.Common.{◌∙◌, sym, subst}
use Rattle.std.specs.Prelude.{not, Some}
use Rattle.ifdb_row.specs.declared.row.Row.{Row}
use Rattle.ifdb_row.specs.ByReference.{slot_of}
use Rattle.ifdb_row.specs.Slots.{slot_lt}
use Rattle.ifdb_row.specs.Questions.{IsRun}
use Rattle.ifdb_row.specs.Ranges.{is_below, is_within, rows_within}
use Rattle.ifdb_row.specs.Reach.{skip}
use Rattle.ifdb_row.specs.Runs.{rows_in}
use Rattle.ifdb_row.proofs.Edges.{before_down}
use Rattle.ifdb_row.proofs.Reaches.{leading_is}
use Rattle.ifdb_row.proofs.Questions.{skip_parted, parted_run, run_of}
use Rattle.ifdb_row.proofs.Ranges.{behind_same, behind_down}
use Rattle.ifdb_row.proofs.rows.Rows.within_behind.Goals as goal

pub below-requires : goal.below-requires
below-requires g c =
    let t = c.args.table in
    let x = c.args.range.now in
    let a = slot_of c.args.slot in
    let rows = g.Self.Rows.rows c.args.self.now in
    let run : IsRun (rows_in c.run_from.result) (skip (λ (r : Row). not (slot_lt a r.slot)) rows) = c.run_from.ensures.run in
    parted_run (is_below t x) _ _ run
    (skip_parted (λ r. not (slot_lt a r.slot)) (is_below t x) (is_within t x (Some a)) (behind_same t x a c.requires.slot) (λ r s. before_down a r.slot s.slot) (behind_down t x a c.requires.slot) rows c.run_from.ensures.rising)

pub returns-clause-run : goal.returns-clause-run
returns-clause-run g c =
    let t = c.args.table in
    let x = c.args.range.now in
    let a = slot_of c.args.slot in
    let rows = g.Self.Rows.rows c.args.self.now in
    let run : IsRun (rows_in c.run_from.result) (skip (λ (r : Row). not (slot_lt a r.slot)) rows) = c.run_from.ensures.run in
    let all = run_of (λ r. not (slot_lt a r.slot)) (is_below t x) (is_within t x (Some a)) (behind_same t x a c.requires.slot) (λ r s. before_down a r.slot s.slot) (behind_down t x a c.requires.slot) (rows_in c.run_from.result) rows c.run_from.ensures.rising run in
    subst (λ xs. IsRun xs (rows_within t x (Some a) rows)) (sym (leading_is (is_below t x) (rows_in c.run_from.result)) ∙ sym c.below.ensures) all
