use Rattle.std.proofs.Common.{◌≡◌, [], ◌∷◌, length}
use Rattle.ifdb_syntax.specs.Words.{COMMA}
use Rattle.ifdb_parse.specs.theory.Parser.{repeat_by}
use Rattle.ifdb_parse.specs.rules.Requests as spec
use Rattle.ifdb_parse.proofs.tables.foreigns.Given as goal

abbrev pub invariant-keys : goal.invariant-keys
invariant-keys l = spec.foreigns l.fn.lexemes ≡ repeat_by (COMMA ∷ []) spec.foreign_round l.keys l.rest

abbrev pub decreases-keys : goal.decreases-keys
decreases-keys l = length l.rest
