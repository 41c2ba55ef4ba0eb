use Rattle.std.proofs.Common.{◌≡◌, take}
use Rattle.ifdb_syntax.specs.Printed.{after}
use Rattle.ifdb_syntax.specs.canonical.Tokens.{separated}
use Rattle.ifdb_syntax.specs.canonical.Conditions.{cond_tokens}
use Rattle.ifdb_syntax.proofs.printing.conditions.+cond.Given as goal

abbrev pub invariant-print_chain-loop-index : goal.invariant-print_chain-loop-index
invariant-print_chain-loop-index l =
    l.printer ≡ after l.fn.printer (separated l.word (λ part. cond_tokens part l.place) (take l.index l.parts))
