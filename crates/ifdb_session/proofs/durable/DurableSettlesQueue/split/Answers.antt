use Rattle.std.proofs.Common.{arith, refl}
use Rattle.ifdb_session.proofs.Sharing.{told_as_much}
use Rattle.ifdb_session.proofs.durable.DurableSettlesQueue.split.Goals as goal

pub split-requires-clause-shares : goal.split-requires-clause-shares
split-requires-clause-shares g c = let is = c.requires.shares.1 in omega (arith, is)

pub returns-clause-goes_on : goal.returns-clause-goes_on
returns-clause-goes_on g c = (refl, told_as_much _ _ c.split.ensures.receipt)

pub returns-clause-given : goal.returns-clause-given
returns-clause-given g c = (refl, told_as_much _ _ c.split.ensures.given_receipt)

pub returns-clause-left : goal.returns-clause-left
returns-clause-left g c = λ n has. let left = c.split.ensures.left_shares in omega (arith, has, left)
