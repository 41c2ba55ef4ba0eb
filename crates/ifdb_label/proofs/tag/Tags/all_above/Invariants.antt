use Rattle.std.proofs.Common.{take}
use Rattle.ifdb_label.specs.Ancestors.{HasAbove}
use Rattle.ifdb_label.proofs.tag.Tags.all_above.Given as goal

-- what the parents so far are below
abbrev pub invariant-loop-parent : goal.invariant-loop-parent
invariant-loop-parent l = HasAbove l.self (take l.parent-index l.parents) l.above.items
