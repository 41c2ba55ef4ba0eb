use Rattle.std.proofs.Common.{◌∙◌, List, ap}
use Rattle.std.specs.List.{list_all}
use Rattle.std.proofs.lemmas.Result.{IfOk-weaker}
use Rattle.ifdb_bound.specs.Conditions.{holds}
use Rattle.ifdb_plan.specs.declared.test.Test.{Test}
use Rattle.ifdb_plan.specs.Tests.{conds_of}
use Rattle.ifdb_plan.proofs.Ranging.{has_range}
use Rattle.ifdb_plan.proofs.range.cond_range.Goals as goal

pub returns-clause-has : goal.returns-clause-has
returns-clause-has c =
    IfOk-weaker c.key_range.result _ _
    (λ range is. has_range c.args.cond.now c.deref.result.now c.args.key.now range
    (λ rows. ap (λ (l : List Test). list_all (holds rows) (conds_of l)) c.deref.ensures.value ∙ c.in_ok-tests.ensures.parts rows) is)
    c.key_range.ensures
