use Rattle.ifdb_db.proofs.RoomLaws.{one_more}
use Rattle.ifdb_db.proofs.room.Room.open_next.Goals as goal

pub returns-clause-opened : goal.returns-clause-opened
returns-clause-opened g c = λ st w. one_more c.args.self.now c.add_session.new.self st c.in_ok-add_session.ensures.ok w
