use Rattle.ifdb_restart.proofs.Texts.{further_texts}
use Rattle.ifdb_restart.proofs.laws.first_texts_add_a_front.Goals as goal

pub returns : goal.returns
returns c = further_texts c.fronts_restore.ensures
