use Rattle.ifdb_laws.proofs.Stamps.{judged_lem, stamps_lem}
use Rattle.ifdb_laws.proofs.line_laws.commits_are_judged.Goals as goal

pub returns-clause-verdict : goal.returns-clause-verdict
returns-clause-verdict c = judged_lem

pub returns-clause-stamps : goal.returns-clause-stamps
returns-clause-stamps c = stamps_lem
