use Rattle.std.proofs.Common.{◌≡◌, ◌++◌, take}
use Rattle.std.specs.Prelude.{flat_map}
use Rattle.ifdb_syntax.specs.Spelling.{doubled}
use Rattle.ifdb_syntax.proofs.printer.push_doubled.Given as goal

abbrev pub invariant-loop-byte : goal.invariant-loop-byte
invariant-loop-byte l = l.text.items ≡ l.fn.text.items ++ flat_map doubled (take l.byte-index l.bytes)
