use Rattle.std.proofs.Common.{◌≡◌, ◌<◌, [], ◌∷◌, length}
use Rattle.ifdb_syntax.specs.Words.{COMMA}
use Rattle.ifdb_parse.specs.theory.Parser.{repeat_by}
use Rattle.ifdb_parse.specs.rules.Shared as spec
use Rattle.ifdb_parse.proofs.list.commas.Given as goal

abbrev pub invariant-members : goal.invariant-members
invariant-members g l = record {
  goes_on : spec.commas g.T.Member.parser l.fn.lexemes ≡ repeat_by (COMMA ∷ []) (spec.next_member COMMA g.T.Member.parser) l.found l.rest;
  shorter : length l.rest < length l.fn.lexemes;
}

abbrev pub decreases-members : goal.decreases-members
decreases-members g l = length l.rest
