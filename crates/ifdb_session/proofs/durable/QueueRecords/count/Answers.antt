use Rattle.std.proofs.Common.{◌∙◌, ap, length}
use Rattle.ifdb_session.proofs.durable.QueueRecords.count.Goals as goal

pub returns : goal.returns
returns g c = λ rs has. c.count.ensures ∙ ap length has.all
