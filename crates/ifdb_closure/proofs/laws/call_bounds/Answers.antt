use Rattle.ifdb_closure.proofs.Bounds.{calls_stay_within, calls_leave_sessions}
use Rattle.ifdb_closure.proofs.Owners.{calls_are_the_owners}
use Rattle.ifdb_closure.proofs.Refused.{refused_calls_commit_nothing}
use Rattle.ifdb_closure.proofs.laws.call_bounds.Goals as goal

pub returns-clause-within : goal.returns-clause-within
returns-clause-within c = calls_stay_within

pub returns-clause-owners : goal.returns-clause-owners
returns-clause-owners c = calls_are_the_owners

pub returns-clause-sessions : goal.returns-clause-sessions
returns-clause-sessions c = calls_leave_sessions

pub returns-clause-refused : goal.returns-clause-refused
returns-clause-refused c = refused_calls_commit_nothing
