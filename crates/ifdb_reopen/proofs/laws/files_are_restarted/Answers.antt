use Rattle.ifdb_reopen.proofs.Restarts.{file_restarted}
use Rattle.ifdb_reopen.proofs.laws.files_are_restarted.Goals as goal

pub returns : goal.returns
returns c = file_restarted c.damaged_has_no_texts.ensures
