use Rattle.std.proofs.Common.{◌≡◌, length}
use Rattle.std.specs.List.{list_all}
use Rattle.ifdb_trace.specs.Accepted.{is_short, recorded_lines}
use Rattle.ifdb_trace.proofs.reply.Untold.is_short.Given as goal

-- all lines are short exactly where those that are left are
abbrev pub invariant-lines : goal.invariant-lines
invariant-lines l = list_all is_short (recorded_lines l.self) ≡ list_all is_short (recorded_lines l.rest)

abbrev pub decreases-lines : goal.decreases-lines
decreases-lines l = length l.rest
