use Rattle.ifdb_laws.proofs.ReadBack.{replies_read_back as replies_lem, refusals_read_back}
use Rattle.ifdb_laws.proofs.byte_laws.replies_read_back.Goals as goal

pub returns-clause-replies : goal.returns-clause-replies
returns-clause-replies c = replies_lem

pub returns-clause-refusals : goal.returns-clause-refusals
returns-clause-refusals c = refusals_read_back
