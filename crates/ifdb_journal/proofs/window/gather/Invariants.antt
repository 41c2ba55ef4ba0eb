use Rattle.std.proofs.Common.{◌≡◌, ◌≤◌, ◌<◌, ◌+◌, ◌^◌, ◌-◌, vec_len, vec_capacity}
use Rattle.ifdb_journal.specs.Reading.{StandsAt}
use Rattle.ifdb_journal.proofs.window.gather.Given as goal

-- the text stands at the place, if it did
abbrev pub invariant-loop-text : goal.invariant-loop-text
invariant-loop-text g l = record {
  bytes : StandsAt (g.D.Disk.tells l.fn.disk) l.at l.fn.text.items → StandsAt (g.D.Disk.tells l.fn.disk) l.at l.text.items;
  most : vec_len l.text ≤ 65550;
  end : l.at + vec_len l.text < 2 ^ 62;
  still : g.D.Disk.tells l.disk ≡ g.D.Disk.tells l.fn.disk;
  room : 65550 ≤ vec_capacity l.text;
  chunk : vec_len l.chunk ≡ 65550;
  kept : g.D.Disk.faults l.disk ≡ g.D.Disk.faults l.fn.disk;
}

abbrev pub decreases-loop-text : goal.decreases-loop-text
decreases-loop-text g l = 65550 - vec_len l.text
