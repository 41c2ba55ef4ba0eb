use Rattle.std.proofs.Common.{◌≡◌, take}
use Rattle.std.specs.List.{flat_map}
use Rattle.ifdb_store.proofs.share.joined.Given as goal

-- the items of the lists so far
abbrev pub invariant-loop-list-2 : goal.invariant-loop-list-2
invariant-loop-list-2 g l = l.all.items ≡ flat_map (λ list. list.now) (take l.list-index l.lists)
