use Rattle.std.proofs.Common.{arith, refl}
use Rattle.ifdb_session.proofs.Sharing.{one_group, one_writer}
use Rattle.ifdb_session.proofs.durable.DurableSettlesQueue.join.Goals as goal

pub join-requires-clause-other : goal.join-requires-clause-other
join-requires-clause-other g c =
    let one = c.requires.one in
    one_writer one.0 c.args.self.now c.args.other one.1 one.2 c.requires.other

pub returns-clause-goes_on : goal.returns-clause-goes_on
returns-clause-goes_on g c = (refl, c.join.ensures.receipt)

pub returns-clause-other : goal.returns-clause-other
returns-clause-other g c =
    let one = c.requires.one in
    (one_group one.0 c.args.self.now c.args.other one.1 one.2, c.join.ensures.other_receipt)

pub returns-clause-shares : goal.returns-clause-shares
returns-clause-shares g c = λ n m own given. let all = c.join.ensures.shares in omega (arith, all, own, given)
