use Rattle.std.proofs.Common.{◌≡◌, ◌≤◌, drop}
use Rattle.ifdb_lex.specs.Limits.{nests_deep}
use Rattle.ifdb_lex.proofs.limits.nests_deep.Given as goal

abbrev pub invariant-loop-token : goal.invariant-loop-token
invariant-loop-token l = (nests_deep l.depth (drop l.token-index l.tokens) ≡ nests_deep 0 l.tokens) × (l.depth ≤ 32)
