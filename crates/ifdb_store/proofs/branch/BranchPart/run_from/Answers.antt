use Rattle.std.proofs.Common.{◌≡◌, ◌-◌, ◌^◌, subst, rules, true}
use Rattle.ifdb_store.specs.Costs.{TwigBounds, SearchedIn}
use Rattle.ifdb_store.specs.Pages.{is_branch}
use Rattle.ifdb_store.proofs.Bounds.{branch_bounds}
use Rattle.ifdb_store.proofs.branch.BranchPart.run_from.Goals as goal

pub returns-clause-cost : goal.returns-clause-cost
returns-clause-cost g c =
    let cost = 2 ^ (c.run_from.new.steps - c.args.steps.now) in
    let good : is_branch c.args.self.now ≡ true = search rules in
    let same : c.self.inside.node ≡ c.args.self.now = search rules in
    branch_bounds c.args.self.now cost good (subst (λ parts. SearchedIn TwigBounds parts cost) same c.run_from.ensures.cost)
