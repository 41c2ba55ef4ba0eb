-- A thread's share of the writer is split off, and joined again.
use Rattle.std.proofs.Common.{◌≡◌, ◌∙◌, sym, subst}
use Rattle.std.specs.Borrow.{Bor}
use Rattle.ifdb_durable.specs.declared.group.GroupCommit.{GroupCommit}
use Rattle.ifdb_durable.specs.declared.naming.Naming as naming
use Rattle.ifdb_durable.specs.declared.view.Told.{Told}
use Rattle.ifdb_durable.specs.Groups.{IsMember}
use Rattle.ifdb_durable.specs.Told.{Begins}
use Rattle.ifdb_durable.proofs.Begins.{begins_all}
use Rattle.ifdb_session.specs.declared.durable.Durable.{Durable}
use Rattle.ifdb_session.specs.Durable.{GoesOn, IsReady}

-- whoever was told the same was told as much
pub told_as_much : {D : Type 0} (a b : Told D) → b ≡ a → Begins a b
told_as_much a b same = subst (Begins a) (sym same) (begins_all a)

-- two that go on from one wait by one writer
module _ {B D : Type 0} {named : naming.Ghosts B} (first s t : Durable B D named) (p : GoesOn first s) (q : GoesOn first t) where
  pub one_group : s.group ≡ t.group
  one_group = p.0 ∙ sym q.0

  pub one_writer : IsReady t → IsMember s.group.now.writer t.member
  one_writer ready = subst (λ (group : Bor (GroupCommit B D named)). IsMember group.now.writer t.member) (sym one_group) ready
