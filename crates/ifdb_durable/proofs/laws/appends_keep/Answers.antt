use Rattle.ifdb_durable.proofs.Worth.{appends_keep}
use Rattle.ifdb_durable.proofs.laws.appends_keep.Goals as goal

pub returns : goal.returns
returns g c = appends_keep g.row.D.Denot g.D.Disk.tells
