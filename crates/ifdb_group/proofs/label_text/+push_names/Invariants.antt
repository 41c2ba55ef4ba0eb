use Rattle.std.proofs.Common.{length}
use Rattle.ifdb_group.proofs.label_text.+push_names.Given as goal

abbrev pub decreases-push_names : goal.decreases-push_names
decreases-push_names l = length l.label.now
