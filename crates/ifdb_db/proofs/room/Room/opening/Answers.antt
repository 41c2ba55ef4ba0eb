use Rattle.std.proofs.Common.{length, sym, ap, subst, arith}
use Rattle.ifdb_db.specs.Kept.{AreHeld}
use Rattle.ifdb_db.proofs.RoomLaws.{stands_open}
use Rattle.ifdb_db.proofs.room.Room.opening.Goals as goal

pub invariant_of-result : goal.invariant_of-result
invariant_of-result g c = subst (AreHeld c.in_ok-opening.field-0) (sym c.none.ensures) (λ k x lt. absurd (omega (arith, lt)))

pub returns-clause-opening : goal.returns-clause-opening
returns-clause-opening g c =
    stands_open (record { desk = c.in_ok-opening.field-0; clients = g.S.Sessions.clients c.none.result }) c.in_ok-opening.ensures c.none.ensures

pub returns-clause-nobody : goal.returns-clause-nobody
returns-clause-nobody g c = ap length c.none.ensures
