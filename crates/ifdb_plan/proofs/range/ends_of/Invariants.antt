use Rattle.std.proofs.Common.{◌≡◌, ◌&&◌, drop}
use Rattle.ifdb_value.specs.declared.value.Value.{Value}
use Rattle.ifdb_plan.specs.Tests.{conds_of}
use Rattle.ifdb_plan.specs.Ranges.{is_between, lies_between}
use Rattle.ifdb_plan.proofs.range.ends_of.Given as goal

-- what the ends and the tests that are left leave is what all tests do
abbrev pub invariant-loop-test : goal.invariant-loop-test
invariant-loop-test l = (v : Value) → (is_between l.ends v && lies_between l.column (conds_of (drop l.test-index l.tests)) v) ≡ lies_between l.column (conds_of l.tests) v
