use Rattle.std.proofs.Common.{◌≡◌, ◌∙◌, ◌≤◌, ◌&&◌, ap, length, rules}
use Rattle.std.specs.Option.{option_map}
use Rattle.ifdb_plan.specs.Tests.{conds_of}
use Rattle.ifdb_plan.specs.Ranges.{bound_in, bound_is, is_between, lies_between, lies_within}
use Rattle.ifdb_plan.proofs.Ranging.{ends_on, ends_done}
use Rattle.ifdb_plan.proofs.range.ends_of.Goals as goal

pub loop-test-preserved : goal.loop-test-preserved
loop-test-preserved c v =
    let tests = c.args.tests.now in
    let step = c.within-ends.ensures v ∙ ap (λ o. is_between c.loop-test.ends v && lies_within v o) c.limit_in.ensures in
    ends_on c.args.column tests c.loop-test.test-index v (lies_between c.args.column (conds_of tests) v) c.test-item.result _ _ c.loop-test-test.true c.test-item.is step (c.loop-test.invariant v)

pub returns : goal.returns
returns c v =
    let tests = c.args.tests.now in
    let le : length tests ≤ c.loop-test.test-index = search rules in
    ends_done c.args.column tests c.loop-test.test-index v (lies_between c.args.column (conds_of tests) v) _ le (c.loop-test.invariant v)
