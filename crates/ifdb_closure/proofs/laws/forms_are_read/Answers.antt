use Rattle.ifdb_closure.proofs.Spelled.{calls_are_read, creates_are_read}
use Rattle.ifdb_closure.proofs.Joined.{statements_are_joined}
use Rattle.ifdb_closure.proofs.laws.forms_are_read.Goals as goal

pub returns-clause-calls : goal.returns-clause-calls
returns-clause-calls c = calls_are_read

pub returns-clause-creates : goal.returns-clause-creates
returns-clause-creates c = creates_are_read

pub returns-clause-statements : goal.returns-clause-statements
returns-clause-statements c = statements_are_joined
