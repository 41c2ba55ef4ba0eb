use Rattle.std.proofs.Common.{◌≡◌, take}
use Rattle.ifdb_closure.specs.Closures.{names_of}
use Rattle.ifdb_closure.proofs.lines.names_of.Given as goal

-- the names of the tags so far
abbrev pub invariant-loop-tag : goal.invariant-loop-tag
invariant-loop-tag l = l.names ≡ names_of l.room.desk.seen.public (take l.tag-index l.tags)
