use Rattle.ifdb_reopen.proofs.Titles.{title_file}
use Rattle.ifdb_reopen.proofs.laws.title_is_a_file.Goals as goal

pub returns : goal.returns
returns c = title_file
