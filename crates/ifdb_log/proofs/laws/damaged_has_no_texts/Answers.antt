use Rattle.ifdb_log.proofs.TextsRead.{no_texts}
use Rattle.ifdb_log.proofs.laws.damaged_has_no_texts.Goals as goal

pub returns : goal.returns
returns c = no_texts
