use Rattle.std.proofs.Common.{◌≡◌, drop}
use Rattle.ifdb_keyed.specs.Marks.{first_mark}
use Rattle.ifdb_keyed.proofs.heard.begins_with_h.Given as goal

-- only blanks came so far
abbrev pub invariant-loop-byte : goal.invariant-loop-byte
invariant-loop-byte l = first_mark (drop l.byte-index l.line) ≡ first_mark l.fn.line
