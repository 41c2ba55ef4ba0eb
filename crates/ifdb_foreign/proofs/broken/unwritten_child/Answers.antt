use Rattle.std.proofs.Common.{◌≡◌, ◌∙◌, ap, arith, sym}
use Rattle.std.specs.Prelude.{not}
use Rattle.std.proofs.lemmas.Bool.Decides.{nat_tests}
use Rattle.ifdb_row.specs.declared.row.Row.{Row}
use Rattle.ifdb_row.specs.ByReference.{option_slot, row_of}
use Rattle.ifdb_row.specs.Content.{rising}
use Rattle.ifdb_row.specs.Questions.{row_bound_to}
use Rattle.ifdb_row.specs.Writes.{is_written}
use Rattle.ifdb_foreign.proofs.AfterWrites.{is_true}
use Rattle.ifdb_foreign.proofs.ChildRows.{fewer, find_here, find_on, find_none}
use Rattle.ifdb_foreign.proofs.broken.unwritten_child.Goals as goal

pub returns-then-not-has : goal.returns-then-not-has
returns-then-not-has g c =
    let here = ap (λ s. row_bound_to s (option_slot c.children.after) (g.R.Rows.rows c.args.before.now)) (sym c.by_ref.ensures) in
    find_here c.args.slot.now (λ (r : Row). not (is_written c.args.writes.now r.slot)) (option_slot c.children.after) (g.R.Rows.rows c.args.before.now) (row_of c.in-Some.row)
    (is_true (rising (g.R.Rows.rows c.args.before.now)) c.in-Some.ensures.rising) (here ∙ sym c.in-Some.ensures.row) c.children.invariant (grind (arith, nat_tests))

pub children-smaller : goal.children-smaller
children-smaller g c =
    let here = ap (λ s. row_bound_to s (option_slot c.children.after) (g.R.Rows.rows c.args.before.now)) (sym c.by_ref.ensures) in
    fewer c.args.slot.now (option_slot c.children.after) (g.R.Rows.rows c.args.before.now) (row_of c.in-Some.row)
    (is_true (rising (g.R.Rows.rows c.args.before.now)) c.in-Some.ensures.rising) (here ∙ sym c.in-Some.ensures.row)

pub children-preserved : goal.children-preserved
children-preserved g c =
    let here = ap (λ s. row_bound_to s (option_slot c.children.after) (g.R.Rows.rows c.args.before.now)) (sym c.by_ref.ensures) in
    find_on c.args.slot.now (λ (r : Row). not (is_written c.args.writes.now r.slot)) (option_slot c.children.after) (g.R.Rows.rows c.args.before.now) (row_of c.in-Some.row)
    (is_true (rising (g.R.Rows.rows c.args.before.now)) c.in-Some.ensures.rising) (here ∙ sym c.in-Some.ensures.row) c.children.invariant (grind (arith, nat_tests))

pub returns : goal.returns
returns g c =
    let here = ap (λ s. row_bound_to s (option_slot c.children.after) (g.R.Rows.rows c.args.before.now)) (sym c.by_ref.ensures) in
    find_none c.args.slot.now (λ (r : Row). not (is_written c.args.writes.now r.slot)) (option_slot c.children.after) (g.R.Rows.rows c.args.before.now)
    (here ∙ sym c.in_default.ensures.row) c.children.invariant
