use Rattle.std.proofs.Common.{◌≡◌, ◌-◌, ◌^◌, subst, rules, true}
use Rattle.ifdb_store.specs.Costs.{BranchBounds, SearchedIn}
use Rattle.ifdb_store.specs.Pages.{is_limb}
use Rattle.ifdb_store.proofs.Bounds.{limb_bounds}
use Rattle.ifdb_store.proofs.limb.LimbPart.run_from.Goals as goal

pub returns-clause-cost : goal.returns-clause-cost
returns-clause-cost g c =
    let cost = 2 ^ (c.run_from.new.steps - c.args.steps.now) in
    let good : is_limb c.args.self.now ≡ true = search rules in
    let same : c.self.inside.node ≡ c.args.self.now = search rules in
    limb_bounds c.args.self.now cost good (subst (λ parts. SearchedIn BranchBounds parts cost) same c.run_from.ensures.cost)
