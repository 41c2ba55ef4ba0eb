use Rattle.ifdb_framing.proofs.Outputs.{outputs_read_back as outputs_lem, outputs_tell_refusals}
use Rattle.ifdb_framing.proofs.laws.outputs_read_back.Goals as goal

pub returns-clause-replies : goal.returns-clause-replies
returns-clause-replies c = outputs_lem

pub returns-clause-refusals : goal.returns-clause-refusals
returns-clause-refusals c = outputs_tell_refusals
