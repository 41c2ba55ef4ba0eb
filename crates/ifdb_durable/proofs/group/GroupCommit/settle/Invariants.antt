use mathlib.Core.List.{IsPrefix}
use Rattle.std.proofs.Common.{◌≡◌}
use Rattle.ifdb_turn.specs.Passes.{history, places, shares, BelongsTo, IsOrderly, NoForeignRoots}
use Rattle.ifdb_durable.specs.Told.{Begins}
use Rattle.ifdb_durable.specs.Groups.{IsMember, shares_of}
use Rattle.ifdb_durable.proofs.group.GroupCommit.settle.Given as goal

abbrev pub invariant-loop : goal.invariant-loop
invariant-loop g l =
    (goal.iterator-loop g).can_next l.iterator' × (goal.iterator-loop g).is_finite l.iterator'
    × IsMember l.self.writer l.member × BelongsTo l.room l.pass × IsPrefix (history l.initial.pass) (history l.pass)
    × Begins l.initial.member.receipt l.member.receipt × (shares l.pass ≡ shares l.initial.pass)
    × (IsOrderly g.O.Object.right l.initial.pass → IsOrderly g.O.Object.right l.pass) × (places l.pass ≡ places l.initial.pass) × NoForeignRoots g.O.Object.root l.initial.pass l.pass × (shares_of l.member ≡ shares_of l.initial.member)
