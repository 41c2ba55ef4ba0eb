use Rattle.std.proofs.Common.{◌≡◌, take}
use Rattle.ifdb_snapshot.proofs.public_state.copy_names.Given as goal

-- the copies of the names so far
abbrev pub invariant-loop-name : goal.invariant-loop-name
invariant-loop-name l = l.copied.items ≡ take l.name-index l.names
