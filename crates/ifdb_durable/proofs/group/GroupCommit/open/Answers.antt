use Rattle.ifdb_durable.proofs.Appends.{stands_first}
use Rattle.ifdb_durable.proofs.group.GroupCommit.open.Goals as goal

pub new-requires : goal.new-requires
new-requires g c = record {
  stands_for_nothing = stands_first g.D.Disk.tells g.B.Naming.before g.D.Disk.faults g.B.Naming.table c.args.writer c.requires.opening c.requires.writes c.requires.idle;
}
