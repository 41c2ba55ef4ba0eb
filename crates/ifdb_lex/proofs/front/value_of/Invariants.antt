use Rattle.std.proofs.Common.{◌≡◌, ◌≤◌, ◌+◌, ◌^◌, drop}
use Rattle.ifdb_lex.specs.Front.{capped, decimal}
use Rattle.ifdb_lex.proofs.front.value_of.Given as goal

abbrev pub invariant-loop-digit : goal.invariant-loop-digit
invariant-loop-digit l =
    (capped (decimal l.value (drop l.digit-index l.digits)) ≡ capped (decimal 0 l.digits)) × (l.value ≤ 2 ^ 63 + 1)
