use Rattle.std.proofs.Common.{ap}
use Rattle.ifdb_db.specs.Reading.{request_or_fault}
use Rattle.ifdb_db.proofs.Narrow.{read_narrow}
use Rattle.ifdb_db.proofs.reading.read_line.Goals as goal

pub returns-in-Ok-clause-narrow : goal.returns-in-Ok-clause-narrow
returns-in-Ok-clause-narrow c = read_narrow c.args.line.now c.in-Ok.request (ap request_or_fault c.in-Ok.ensures.request)
