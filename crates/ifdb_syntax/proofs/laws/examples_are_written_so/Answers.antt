use Rattle.ifdb_syntax.proofs.Examples.{expr_examples, cond_examples, request_examples}
use Rattle.ifdb_syntax.proofs.laws.examples_are_written_so.Goals as goal

pub returns-clause-expressions : goal.returns-clause-expressions
returns-clause-expressions c = expr_examples

pub returns-clause-conditions : goal.returns-clause-conditions
returns-clause-conditions c = cond_examples

pub returns-clause-requests : goal.returns-clause-requests
returns-clause-requests c = request_examples
