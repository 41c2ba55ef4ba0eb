use Rattle.std.proofs.Common.{◌≡◌, [], ◌∷◌, length}
use Rattle.ifdb_syntax.specs.Words.{NAME}
use Rattle.ifdb_parse.specs.theory.Parser.{repeat_by}
use Rattle.ifdb_parse.specs.rules.Requests as spec
use Rattle.ifdb_parse.proofs.tables.more_columns.Given as goal

abbrev pub invariant-columns : goal.invariant-columns
invariant-columns l = spec.more_columns l.fn.found l.fn.lexemes ≡ repeat_by (NAME ∷ []) spec.column_round l.columns l.rest

abbrev pub decreases-columns : goal.decreases-columns
decreases-columns l = length l.rest
