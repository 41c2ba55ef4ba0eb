use Rattle.std.proofs.Common.{◌≡◌, take}
use Rattle.ifdb_label.proofs.tag.copied.Given as goal

-- the copies of the entries so far
abbrev pub invariant-loop-entry : goal.invariant-loop-entry
invariant-loop-entry l = l.copies.items ≡ take l.entry-index l.entries
