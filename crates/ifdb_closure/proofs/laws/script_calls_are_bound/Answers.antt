use Rattle.ifdb_closure.proofs.ScriptBounds.{script_calls_commit_nothing, script_calls_are_the_owners}
use Rattle.ifdb_closure.proofs.laws.script_calls_are_bound.Goals as goal

pub returns-clause-refused : goal.returns-clause-refused
returns-clause-refused c = script_calls_commit_nothing

pub returns-clause-owners : goal.returns-clause-owners
returns-clause-owners c = script_calls_are_the_owners
