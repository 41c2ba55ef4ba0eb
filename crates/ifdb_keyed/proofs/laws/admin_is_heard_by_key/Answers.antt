use Rattle.ifdb_keyed.proofs.Keys.{only_the_key_is_admin, other_keys_are_none, the_key_is_admin}
use Rattle.ifdb_keyed.proofs.laws.admin_is_heard_by_key.Goals as goal

pub returns-clause-only : goal.returns-clause-only
returns-clause-only c = only_the_key_is_admin

pub returns-clause-key : goal.returns-clause-key
returns-clause-key c = the_key_is_admin

pub returns-clause-none : goal.returns-clause-none
returns-clause-none c = other_keys_are_none
