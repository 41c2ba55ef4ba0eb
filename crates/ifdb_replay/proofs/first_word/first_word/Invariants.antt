use Rattle.std.proofs.Common.{◌≡◌, ◌≤◌, ◌+◌, ◌-◌, length, drop}
use Rattle.std.specs.List.{prefix_len}
use Rattle.ifdb_lex.specs.Front.{is_word_byte}
use Rattle.ifdb_replay.proofs.first_word.first_word.Given as goal

-- the bytes so far are of the word
abbrev pub invariant-loop-end : goal.invariant-loop-end
invariant-loop-end l = record {
  word : prefix_len is_word_byte l.text ≡ l.end + prefix_len is_word_byte (drop l.end l.text);
  within : l.end ≤ length l.text;
}

abbrev pub decreases-loop-end : goal.decreases-loop-end
decreases-loop-end l = length l.text - l.end
