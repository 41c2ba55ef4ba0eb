use Rattle.ifdb_parse.proofs.rules.Line.{whole_is_line, whole_is_fault, one_request}
use Rattle.ifdb_parse.proofs.laws.parser_reads_the_grammar.Goals as goal

pub returns-clause-request : goal.returns-clause-request
returns-clause-request c = whole_is_line

pub returns-clause-fault : goal.returns-clause-fault
returns-clause-fault c = whole_is_fault

pub returns-clause-one : goal.returns-clause-one
returns-clause-one c = one_request
