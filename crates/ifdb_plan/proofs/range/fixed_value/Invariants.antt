use Rattle.std.proofs.Common.{◌≡◌, drop}
use Rattle.ifdb_plan.specs.Tests.{conds_of}
use Rattle.ifdb_plan.specs.Ranges.{fixed_value}
use Rattle.ifdb_plan.proofs.range.fixed_value.Given as goal

-- the first value is among the tests that are left
abbrev pub invariant-loop-test : goal.invariant-loop-test
invariant-loop-test l = fixed_value l.column (conds_of (drop l.test-index l.tests)) ≡ fixed_value l.column (conds_of l.tests)
