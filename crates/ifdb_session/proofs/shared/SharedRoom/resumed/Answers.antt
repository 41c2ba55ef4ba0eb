use Rattle.ifdb_session.proofs.Counting.{stands_first}
use Rattle.ifdb_session.proofs.shared.SharedRoom.resumed.Goals as goal

pub returns : goal.returns
returns g c = stands_first g.Q.Records c.args.room c.args.records c.requires.stands c.requires.none
