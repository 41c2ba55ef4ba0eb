use Rattle.ifdb_laws.proofs.Examples.{secret_child_row_plays, broken_reference_row_plays}
use Rattle.ifdb_laws.proofs.worked.reference_rows.Goals as goal

pub returns-clause-secret_child : goal.returns-clause-secret_child
returns-clause-secret_child c = secret_child_row_plays

pub returns-clause-broken_reference : goal.returns-clause-broken_reference
returns-clause-broken_reference c = broken_reference_row_plays
