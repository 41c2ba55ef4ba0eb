use Rattle.ifdb_parse.proofs.written.Parsed.{parsed_is_request, parsed_is_syntax, parsed_is_limit}
use Rattle.ifdb_parse.proofs.laws.requests_are_read.Goals as goal

pub returns-clause-request : goal.returns-clause-request
returns-clause-request c = parsed_is_request

pub returns-clause-place : goal.returns-clause-place
returns-clause-place c = parsed_is_syntax

pub returns-clause-limit : goal.returns-clause-limit
returns-clause-limit c = parsed_is_limit
