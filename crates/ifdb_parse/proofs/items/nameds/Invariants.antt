use Rattle.std.proofs.Common.{◌≡◌, [], ◌∷◌, length}
use Rattle.ifdb_syntax.specs.Words.{COMMA}
use Rattle.ifdb_parse.specs.theory.Parser.{repeat_by}
use Rattle.ifdb_parse.specs.rules.Shared.{commas, next_member}
use Rattle.ifdb_parse.specs.rules.Queries as spec
use Rattle.ifdb_parse.proofs.items.nameds.Given as goal

abbrev pub invariant-nameds : goal.invariant-nameds
invariant-nameds l = commas spec.named l.fn.lexemes ≡ repeat_by (COMMA ∷ []) (next_member COMMA spec.named) l.items l.rest

abbrev pub decreases-nameds : goal.decreases-nameds
decreases-nameds l = length l.rest
