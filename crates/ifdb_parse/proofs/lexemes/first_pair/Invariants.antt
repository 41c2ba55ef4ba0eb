use Rattle.std.proofs.Common.{◌≡◌, ◌-◌, ◌≤◌, ◌++◌, length, take, drop}
use Rattle.ifdb_parse.specs.Lexemes.{undoubled}
use Rattle.ifdb_parse.proofs.lexemes.first_pair.Given as goal

abbrev pub invariant-loop-at : goal.invariant-loop-at
invariant-loop-at l = (undoubled l.text ≡ take l.at l.text ++ undoubled (drop l.at l.text)) × (l.at ≤ length l.text)

abbrev pub decreases-loop-at : goal.decreases-loop-at
decreases-loop-at l = length l.text - l.at
