use Rattle.std.proofs.Common.{◌≡◌, ◌∙◌, sym, ap, Some}
use Rattle.std.specs.Option.{option_copied}
use Rattle.std.proofs.lemmas.Result.{IfOk-weaker}
use Rattle.ifdb_plan.specs.Tests.{conds_of}
use Rattle.ifdb_plan.proofs.Ranging.{column_fixed}
use Rattle.ifdb_plan.proofs.range.+range_behind.Goals as goal

pub returns-in-Some : goal.returns-in-Some
returns-in-Some t c =
    let fixed = sym c.fixed_value.ensures ∙ ap option_copied c.in-Some.is in
    IfOk-weaker c.range_behind.result _ _
    (λ range. column_fixed (conds_of c.args.tests.now) c.args.place c.args.key.now c.args.front c.in_ok-front-in-Some.front c.in-Some.value.now range c.in-len1-up.len_at_least fixed c.in_ok-front-in-Some.ensures)
    c.range_behind.ensures
