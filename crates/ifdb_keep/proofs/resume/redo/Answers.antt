use Rattle.ifdb_keep.proofs.Resuming.{redoes_restart}
use Rattle.ifdb_keep.proofs.resume.redo.Goals as goal

pub returns-in-Restart : goal.returns-in-Restart
returns-in-Restart c = redoes_restart c.args.entry.now c.args.room.now c.leave_all.new.room c.in-Restart.is c.leave_all.ensures
