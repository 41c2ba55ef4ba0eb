use Rattle.ifdb_parse.proofs.written.ReadsBack.{parsed_reads_back}
use Rattle.ifdb_parse.proofs.way_back.requests_read_back.Goals as goal

pub returns : goal.returns
returns c = parsed_reads_back
