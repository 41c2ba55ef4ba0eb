use Rattle.std.proofs.Common.{length}
use Rattle.ifdb_script.proofs.Counting.{Counting}
use Rattle.ifdb_script.proofs.rehearsal.rehearse_lines.Given as goal

-- what is left brings the counts to those of the whole
abbrev pub invariant-lines : goal.invariant-lines
invariant-lines l = Counting l.script l.room l.counts l.rest

abbrev pub decreases-lines : goal.decreases-lines
decreases-lines l = length l.rest
