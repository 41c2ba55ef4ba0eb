use Rattle.std.proofs.Common.{◌≤◌, ◌∙◌, length, refl}
use Rattle.std.proofs.lemmas.Result.{on_ok_weaker}
use Rattle.ifdb_durable.specs.Told.{kept_by}
use Rattle.ifdb_durable.proofs.Begins.{begins_all}
use Rattle.ifdb_session.specs.Durable.{KnowsOnDisk}
use Rattle.ifdb_session.proofs.durable.DurableSettlesQueue.settle.Goals as goal

pub returns-clause-goes_on : goal.returns-clause-goes_on
returns-clause-goes_on g c = (refl, c.settle.ensures.more)

pub returns-clause-sees : goal.returns-clause-sees
returns-clause-sees g c =
    let e = c.settle.ensures in record { belongs = e.room; orderly = e.orderly c.requires.orderly; begins = e.sees; shares = e.shares }

pub returns-clause-kept : goal.returns-clause-kept
returns-clause-kept g c =
    let receipt = c.settle.new.member.receipt in
    let known : c.args.count ≤ length (kept_by receipt) → KnowsOnDisk (record c.args.self.now { member = c.settle.new.member }) c.args.count = λ le. (receipt, begins_all receipt, le) in
    on_ok_weaker _ known c.settle.ensures.kept

pub returns-clause-shares : goal.returns-clause-shares
returns-clause-shares g c = λ n has. c.settle.ensures.member_shares ∙ has
