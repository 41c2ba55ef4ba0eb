use Rattle.ifdb_authority.proofs.Grants.{distinct-granted, distinct-without}
use Rattle.ifdb_authority.proofs.laws.grants_stand_once.Goals as goal

pub returns : goal.returns
returns c = record { granting = distinct-granted; revoking = λ a g. distinct-without g a.grants }
