use Rattle.std.proofs.Common.{◌≡◌, ◌-◌, length, drop}
use Rattle.ifdb_label.specs.Label.{with_tags}
use Rattle.ifdb_label.proofs.rising.insert_all.Given as goal

abbrev pub invariant-loop-tag : goal.invariant-loop-tag
invariant-loop-tag l = l.rising.items ≡ with_tags (drop (length l.list - length l.yielded) l.list) l.initial.rising.items
