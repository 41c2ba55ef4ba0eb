use Rattle.std.proofs.Common.{◌≡◌, ◌≤◌, ◌-◌, length, drop}
use Rattle.ifdb_replay.specs.FirstWord.{after_blanks}
use Rattle.ifdb_replay.proofs.first_word.after_blanks.Given as goal

-- the bytes so far are blanks
abbrev pub invariant-loop-start : goal.invariant-loop-start
invariant-loop-start l = record {
  blanks : after_blanks (drop l.start l.text) ≡ after_blanks l.text;
  within : l.start ≤ length l.text;
}

abbrev pub decreases-loop-start : goal.decreases-loop-start
decreases-loop-start l = length l.text - l.start
