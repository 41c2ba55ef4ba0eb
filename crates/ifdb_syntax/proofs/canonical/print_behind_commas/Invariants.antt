use Rattle.std.proofs.Common.{◌≡◌, take}
use Rattle.ifdb_syntax.specs.declared.lexeme.Lexeme.TheVariants as t
use Rattle.ifdb_syntax.specs.Printed.{after}
use Rattle.ifdb_syntax.specs.canonical.Tokens.{behind}
use Rattle.ifdb_syntax.proofs.canonical.print_behind_commas.Given as goal

abbrev pub invariant-loop-member : goal.invariant-loop-member
invariant-loop-member g l =
    l.printer ≡ after l.fn.printer (behind t.Comma g.T.Canonical.tokens (take l.member-index l.members))
