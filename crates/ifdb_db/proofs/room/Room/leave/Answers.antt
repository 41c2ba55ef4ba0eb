use Rattle.std.proofs.Common.{sym, ◌∙◌}
use Rattle.ifdb_db.proofs.RoomLaws.{one_leaves}
use Rattle.ifdb_db.proofs.room.Room.leave.Goals as goal

pub returns-then-is_open : goal.returns-then-is_open
returns-then-is_open g c = λ st w. one_leaves c.args.self.now c.close.new.self st c.args.n c.is_sound.ensures (sym c.is_open.ensures ∙ c.if-is_open.true) c.close.ensures w
