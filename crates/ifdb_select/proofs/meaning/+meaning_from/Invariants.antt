use Rattle.std.proofs.Common.{length}
use Rattle.ifdb_select.proofs.meaning.+meaning_from.Given as goal

abbrev pub decreases-meaning_from : goal.decreases-meaning_from
decreases-meaning_from g l = length l.columns.now
