use Rattle.std.proofs.Common.{◌≡◌, take}
use Rattle.std.specs.List.{fold}
use Rattle.ifdb_store.specs.Links.{mixed}
use Rattle.ifdb_store.proofs.print.with_tags.Given as goal

abbrev pub invariant-loop-tag : goal.invariant-loop-tag
invariant-loop-tag l = l.longer ≡ fold mixed l.print (take l.tag-index l.tags)
