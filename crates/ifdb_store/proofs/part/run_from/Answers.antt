use Rattle.std.proofs.Common.{◌≡◌, ◌+◌, ◌-◌, ◌^◌, ◌++◌, subst, arith, ◌∙◌, [], ap, sym, drop, rules}
use Rattle.std.specs.List.{flat_map}
use Rattle.ifdb_row.specs.declared.row.Row.{Row}
use Rattle.ifdb_row.specs.Edges.{lies_before}
use Rattle.ifdb_row.specs.Questions.{IsRun, rows_from}
use Rattle.ifdb_row.specs.Reach.{skip}
use Rattle.ifdb_row.specs.Runs.{rows_in}
use Rattle.ifdb_row.proofs.Edges.{edge_falls}
use Rattle.ifdb_store.proofs.FindLemmas.{skipped_at, run_more, same_run, empty_run, some_run}
use Rattle.ifdb_store.proofs.Costs.{pow_join}
use Rattle.ifdb_store.proofs.part.run_from.Goals as goal

pub returns-then-is_empty-clause-run : goal.returns-then-is_empty-clause-run
returns-then-is_empty-clause-run g c =
    let p = lies_before c.args.edge.now in
    let y = c.index-parts-at.result in
    let some = c.requires.some in
    let all = skipped_at p (edge_falls c.args.edge.now) g.P.Placed.rows g.P.Placed.place g.P.Part.is_part g.met.P.Part.begins c.args.parts.now c.part_at-at.result y some c.part_at-at.ensures.place c.index-parts-at.is c.requires.parts c.requires.in_order in
    let found : IsRun (rows_in c.run_from-run.result) (skip (λ (r : Row). p r.slot) (g.P.Placed.rows c.get.result.now)) = c.run_from-run.ensures.run in
    let no : (rows_in c.run_from-run.result) ≡ [] = empty_run (rows_in c.run_from-run.result) (search rules) in
    let none : skip (λ (r : Row). p r.slot) (g.P.Placed.rows y) ≡ [] = ap (λ x. skip (λ (r : Row). p r.slot) (g.P.Placed.rows x)) (sym c.get.ensures) ∙ found.some no in
    let rest = flat_map g.P.Placed.rows (drop (c.part_at-at.result + 1) c.args.parts.now) in
    same_run (rows_in c.run_at.result) rest (rows_from c.args.edge.now (flat_map g.P.Placed.rows c.args.parts.now)) (sym (all ∙ ap (λ xs. xs ++ rest) none)) c.run_at.ensures

pub returns-clause-run : goal.returns-clause-run
returns-clause-run g c =
    let p = lies_before c.args.edge.now in
    let y = c.index-parts-at.result in
    let some = c.requires.some in
    let all = skipped_at p (edge_falls c.args.edge.now) g.P.Placed.rows g.P.Placed.place g.P.Part.is_part g.met.P.Part.begins c.args.parts.now c.part_at-at.result y some c.part_at-at.ensures.place c.index-parts-at.is c.requires.parts c.requires.in_order in
    let found : IsRun (rows_in c.run_from-run.result) (skip (λ (r : Row). p r.slot) (g.P.Placed.rows c.get.result.now)) = c.run_from-run.ensures.run in
    let here : IsRun (rows_in c.run_from-run.result) (skip (λ (r : Row). p r.slot) (g.P.Placed.rows y)) = same_run (rows_in c.run_from-run.result) _ _ (ap (λ x. skip (λ (r : Row). p r.slot) (g.P.Placed.rows x)) c.get.ensures) found in
    let is = some_run (rows_in c.run_from-run.result) (search rules) in
    let rest = flat_map g.P.Placed.rows (drop (c.part_at-at.result + 1) c.args.parts.now) in
    same_run (rows_in c.run_from-run.result) _ (rows_from c.args.edge.now (flat_map g.P.Placed.rows c.args.parts.now)) (sym all) (run_more (rows_in c.run_from-run.result) (skip (λ (r : Row). p r.slot) (g.P.Placed.rows y)) rest here is)

pub returns-then-is_empty-clause-cost : goal.returns-then-is_empty-clause-cost
returns-then-is_empty-clause-cost g c = record {
  part = c.index-parts-at.result;
  place = c.part_at-at.result;
  there = c.part_at-at.ensures.within;
  is = c.index-parts-at.is;
  inside = 2 ^ (c.run_from-run.new.steps - c.part_at-at.new.steps);
  bounded = subst (λ x. g.P.Part.bounds x (2 ^ (c.run_from-run.new.steps - c.part_at-at.new.steps))) c.get.ensures c.run_from-run.ensures.cost;
  product = pow_join c.args.steps.now c.part_at-at.new.steps c.run_from-run.new.steps _ _ c.part_at-at.ensures.more c.run_from-run.ensures.more c.part_at-at.ensures.cost (omega arith);
}

pub returns-clause-cost : goal.returns-clause-cost
returns-clause-cost g c = record {
  part = c.index-parts-at.result;
  place = c.part_at-at.result;
  there = c.part_at-at.ensures.within;
  is = c.index-parts-at.is;
  inside = 2 ^ (c.run_from-run.new.steps - c.part_at-at.new.steps);
  bounded = subst (λ x. g.P.Part.bounds x (2 ^ (c.run_from-run.new.steps - c.part_at-at.new.steps))) c.get.ensures c.run_from-run.ensures.cost;
  product = pow_join c.args.steps.now c.part_at-at.new.steps c.run_from-run.new.steps _ _ c.part_at-at.ensures.more c.run_from-run.ensures.more c.part_at-at.ensures.cost (omega arith);
}
