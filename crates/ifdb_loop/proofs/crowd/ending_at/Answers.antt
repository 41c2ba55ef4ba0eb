use Rattle.std.proofs.Common.{sym}
use Rattle.ifdb_loop.proofs.Crowding.{ended_at}
use Rattle.ifdb_loop.proofs.crowd.ending_at.Goals as goal

pub returns : goal.returns
returns g c =
    ended_at c.args.clients.now c.args.key c.in_ok-get.field-0.now c.over.result (sym c.in_ok-get.ensures) c.over.ensures.ending c.over.ensures.paid
