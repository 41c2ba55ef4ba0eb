use Rattle.std.proofs.Common.{◌≡◌, drop}
use Rattle.ifdb_parse.specs.declared.limits.Before.TheVariants as before
use Rattle.ifdb_parse.specs.TreeLimits.{has_lone}
use Rattle.ifdb_parse.proofs.limits.has_lone.Given as goal

abbrev pub invariant-loop-lexeme : goal.invariant-loop-lexeme
invariant-loop-lexeme l = has_lone l.last (drop l.lexeme-index l.lexemes) ≡ has_lone before.Other l.lexemes
