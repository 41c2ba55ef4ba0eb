use Rattle.ifdb_session.proofs.Working.{shown_as}
use Rattle.ifdb_session.proofs.seat.show.Goals as goal

pub returns-in-Ok : goal.returns-in-Ok
returns-in-Ok c = shown_as c.args.look c.in-Ok.reply c.tell.new.out.text c.tell.result c.in-Ok.ensures c.tell.ensures.told c.tell.ensures.memory
