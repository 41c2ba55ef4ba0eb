use Rattle.test_durable.specs.Shop.{IsIn, KeepsShares}
use Rattle.test_durable.proofs.tests.serve_often.Given as goal

abbrev pub invariant-loop : goal.invariant-loop
invariant-loop g l = IsIn l.shop.tally l.shop.group.writer l.hands × KeepsShares l.initial.hands l.hands
