use Rattle.ifdb_authority.proofs.Grants.{stands-granted, stands-revoked}
use Rattle.ifdb_authority.proofs.laws.changes_touch_one_grant.Goals as goal

pub returns-clause-grant : goal.returns-clause-grant
returns-clause-grant c = stands-granted

pub returns-clause-revocation : goal.returns-clause-revocation
returns-clause-revocation c = stands-revoked
