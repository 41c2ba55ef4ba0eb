use Rattle.std.proofs.Common.{rules}
use Rattle.ifdb_db.proofs.BeginLaws.{none_removed}
use Rattle.ifdb_db.proofs.begins.take_away.Goals as goal

pub returns-in_default : goal.returns-in_default
returns-in_default c = none_removed c.args.begin c.args.begins.now.items (search rules)
