use Rattle.std.proofs.Common.{arith, sym}
use Rattle.ifdb_row.specs.declared.row.Row.{Row}
use Rattle.ifdb_label.specs.Label.{flows}
use Rattle.ifdb_row.proofs.KeyRows.{fewer, find_here, find_on, find_none}
use Rattle.ifdb_key.proofs.free.first_seen.Goals as goal

pub returns-then-flows : goal.returns-then-flows
returns-then-flows g c = find_here c.args.table c.args.key.now (λ (r : Row). flows c.args.tags.now r.slot.label c.args.label.now) _ _ _ (grind arith) (sym c.in-Some.ensures.row) c.keyed.invariant (grind arith)

pub keyed-smaller : goal.keyed-smaller
keyed-smaller g c = fewer c.args.table c.args.key.now _ _ _ (grind arith) (sym c.in-Some.ensures.row)

pub keyed-preserved : goal.keyed-preserved
keyed-preserved g c = find_on c.args.table c.args.key.now (λ (r : Row). flows c.args.tags.now r.slot.label c.args.label.now) _ _ _ (grind arith) (sym c.in-Some.ensures.row) c.keyed.invariant (grind arith)

pub returns : goal.returns
returns g c = find_none c.args.table c.args.key.now (λ (r : Row). flows c.args.tags.now r.slot.label c.args.label.now) _ _ (sym c.in_default.ensures.row) c.keyed.invariant
