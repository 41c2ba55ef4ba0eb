use Rattle.std.proofs.Common.{◌≡◌, ◌-◌, ◌≤◌, length, drop}
use Rattle.ifdb_lex.specs.Line.{tokens_of, tokens_from, ahead}
use Rattle.ifdb_lex.proofs.line.tokens_of.Given as goal

abbrev pub invariant-loop-at : goal.invariant-loop-at
invariant-loop-at l = (ahead l.tokens (tokens_from l.at 0 (drop l.at l.line)) ≡ tokens_of l.line) × (l.at ≤ length l.line)

abbrev pub decreases-loop-at : goal.decreases-loop-at
decreases-loop-at l = length l.line - l.at
