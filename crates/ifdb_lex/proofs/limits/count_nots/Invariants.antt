use Rattle.std.proofs.Common.{◌≡◌, ◌≤◌, count_by, take}
use Rattle.ifdb_lex.specs.Limits.{is_not}
use Rattle.ifdb_lex.proofs.limits.count_nots.Given as goal

abbrev pub invariant-loop-token : goal.invariant-loop-token
invariant-loop-token l = (l.count ≡ count_by (is_not l.line) (take l.token-index l.tokens)) × (l.count ≤ l.token-index)
