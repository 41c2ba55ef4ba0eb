use Rattle.std.proofs.Common.{rules}
use Rattle.ifdb_durable.proofs.Steps.{looks_for_failure}
use Rattle.ifdb_durable.proofs.mark.Mark.has_failed.Goals as goal

pub load-requires : goal.load-requires
load-requires g c = (search rules, search rules, looks_for_failure c.args.self.now.table.shared.table_id.slots c.receipt.inside.seat.id c.receipt.inside.seat.me)
