use Rattle.ifdb_laws.proofs.ToldBack.{bytes_tell}
use Rattle.ifdb_laws.proofs.byte_laws.bytes_tell_what_is_told.Goals as goal

pub returns : goal.returns
returns c = bytes_tell
