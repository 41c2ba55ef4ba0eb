use Rattle.ifdb_parse.proofs.back.Back.{reads_back}
use Rattle.ifdb_parse.proofs.way_back.canonical_text_reads_back.Goals as goal

pub returns : goal.returns
returns c = reads_back
