use Rattle.std.proofs.Common.{◌≡◌, ◌<◌, ◌∙◌, [], sym, subst, rules}
use Rattle.std.specs.Prelude.{not, ◌==◌, Some}
use Rattle.ifdb_row.specs.declared.row.Row.{Row}
use Rattle.ifdb_row.specs.ByReference.{slot_of}
use Rattle.ifdb_row.specs.Slots.{slot_lt}
use Rattle.ifdb_row.specs.Questions.{IsRun, is_later, later_rows}
use Rattle.ifdb_row.specs.Reach.{skip}
use Rattle.ifdb_row.specs.Runs.{rows_in}
use Rattle.ifdb_row.proofs.Edges.{before_down}
use Rattle.ifdb_row.proofs.Reaches.{leading_is}
use Rattle.ifdb_row.proofs.Questions.{behind_same, behind_down, skip_parted, parted_run, run_of, none_later, all_later}
use Rattle.ifdb_row.proofs.rows.Rows.run_behind.Goals as goal

pub returns-then-lt-clause-run : goal.returns-then-lt-clause-run
returns-then-lt-clause-run g c =
    let lt : c.args.slot.table.now < c.args.table = search rules in
    subst (λ xs. IsRun (rows_in c.first_run.result) xs) (sym (all_later c.args.table (slot_of c.args.slot) (g.Self.Rows.rows c.args.self.now) lt)) c.first_run.ensures.run

pub returns-then-gt-clause-run : goal.returns-then-gt-clause-run
returns-then-gt-clause-run g c =
    let lt : c.args.table < c.args.slot.table.now = search rules in
    let none = none_later c.args.table (slot_of c.args.slot) (g.Self.Rows.rows c.args.self.now) lt in
    record { rest = []; front = none; some = λ _. none }

pub of_table-requires : goal.of_table-requires
of_table-requires g c =
    let t = c.args.table in
    let a = slot_of c.args.slot in
    let at : a.table ≡ t = search rules in
    let rows = g.Self.Rows.rows c.args.self.now in
    let run : IsRun (rows_in c.run_from-run.result) (skip (λ (r : Row). not (slot_lt a r.slot)) rows) = c.run_from-run.ensures.run in
    parted_run (λ r. r.slot.table == t) _ _ run
    (skip_parted (λ r. not (slot_lt a r.slot)) (λ r. r.slot.table == t) (is_later t (Some a)) (behind_same t a) (λ r s. before_down a r.slot s.slot) (λ r x. behind_down t a r x at) rows c.run_from-run.ensures.rising)

pub returns-clause-run : goal.returns-clause-run
returns-clause-run g c =
    let t = c.args.table in
    let a = slot_of c.args.slot in
    let at : a.table ≡ t = search rules in
    let rows = g.Self.Rows.rows c.args.self.now in
    let run : IsRun (rows_in c.run_from-run.result) (skip (λ (r : Row). not (slot_lt a r.slot)) rows) = c.run_from-run.ensures.run in
    let all = run_of (λ r. not (slot_lt a r.slot)) (λ r. r.slot.table == t) (is_later t (Some a)) (behind_same t a) (λ r s. before_down a r.slot s.slot) (λ r x. behind_down t a r x at) (rows_in c.run_from-run.result) rows c.run_from-run.ensures.rising run in
    subst (λ xs. IsRun xs (later_rows t (Some a) rows)) (sym (leading_is (λ r. r.slot.table == t) (rows_in c.run_from-run.result)) ∙ sym c.of_table.ensures) all
