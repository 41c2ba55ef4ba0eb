use Rattle.ifdb_restart.proofs.Texts.{first_texts}
use Rattle.ifdb_restart.proofs.laws.first_texts_restore_a_front.Goals as goal

pub returns : goal.returns
returns c = first_texts c.runs_are_restored.ensures c.fronts_restore.ensures
