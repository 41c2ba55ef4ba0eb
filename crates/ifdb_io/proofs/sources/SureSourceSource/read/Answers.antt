use Rattle.std.proofs.Common.{rules}
use Rattle.ifdb_io.proofs.FeedLemmas.{gives_front, ends_at_end}
use Rattle.ifdb_io.proofs.sources.SureSourceSource.read.Goals as goal

pub returns-clause-bytes : goal.returns-clause-bytes
returns-clause-bytes c = search (rules, gives_front, ends_at_end)
