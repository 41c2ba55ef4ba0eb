use Rattle.std.proofs.Common.{◌≡◌, ◌-◌, ◌<◌, ◌≤◌, length, drop}
use Rattle.ifdb_lex.specs.Front.{closing}
use Rattle.ifdb_lex.proofs.front.quoted.Given as goal

abbrev pub invariant-loop-at : goal.invariant-loop-at
invariant-loop-at l = (closing l.at (drop l.at l.text) ≡ closing 1 (drop 1 l.text)) × (0 < l.at) × (l.at ≤ length l.text)

abbrev pub decreases-loop-at : goal.decreases-loop-at
decreases-loop-at l = length l.text - l.at
