use Rattle.std.proofs.Common.{refl, sym, subst}
use Rattle.ifdb_db.specs.Room.{Hall, StandsFor}
use Rattle.ifdb_closure.specs.Asking.{lacked}
use Rattle.ifdb_closure.proofs.call.ask_last.Goals as goal

-- a reply that can lack memory is one that changed nothing
pub returns-then-not-put-clause-stopped : goal.returns-then-not-put-clause-stopped
returns-then-not-put-clause-stopped c = λ st w.
    lacked (subst (λ (room : Hall). StandsFor room st) (sym (c.in_ok-reply.ensures.still (c.if-not-put.ensures.unbounded refl))) w)
