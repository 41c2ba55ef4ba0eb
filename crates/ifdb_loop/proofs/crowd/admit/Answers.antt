use Rattle.std.proofs.Common.{◌∷◌, ap, subst}
use Rattle.std.specs.Prelude.{IsPermutation}
use Rattle.slab.specs.Slab.{get}
use Rattle.ifdb_loop.specs.Crowd.{numbers_in}
use Rattle.ifdb_loop.specs.Dialogues.{silence}
use Rattle.ifdb_loop.specs.Wiring.{Wiring}
use Rattle.ifdb_loop.proofs.Endings.{false_true, fresh}
use Rattle.ifdb_loop.proofs.Crowding.{AreServed-settled, AreServed-same, AreServed-more, numbers_more, numbers_same}
use Rattle.ifdb_loop.proofs.crowd.admit.Goals as goal

pub returns-then-is_err-2-clause-served : goal.returns-then-is_err-2-clause-served
returns-then-is_err-2-clause-served g c =
    AreServed-same g.S.Service g.P.Port c.args.service.now c.args.clients.now c.reserve.new.self (λ j. ap (λ m. get m j) c.reserve.ensures.rest_kept) c.requires.served

pub returns-then-is_err-2-clause-numbers : goal.returns-then-is_err-2-clause-numbers
returns-then-is_err-2-clause-numbers g c = numbers_same g.S.Service c.args.clients.now c.reserve.new.self (λ j. ap (λ m. get m j) c.reserve.ensures.rest_kept)

pub returns-in-Err-clause-served : goal.returns-in-Err-clause-served
returns-in-Err-clause-served g c =
    AreServed-settled g.S.Service g.P.Port c.args.service.now c.open.new.self c.reserve.new.self c.open.ensures.others
    (g.met.S.Service.keeps_limit _ _ c.open.ensures.goes_on) (AreServed-same g.S.Service g.P.Port c.args.service.now c.args.clients.now c.reserve.new.self (λ j. ap (λ m. get m j) c.reserve.ensures.rest_kept) c.requires.served)

pub returns-in-Err-clause-numbers : goal.returns-in-Err-clause-numbers
returns-in-Err-clause-numbers g c = numbers_same g.S.Service c.args.clients.now c.reserve.new.self (λ j. ap (λ m. get m j) c.reserve.ensures.rest_kept)

pub returns-clause-admits : goal.returns-clause-admits
returns-clause-admits g c =
    let same = numbers_same g.S.Service c.args.clients.now c.reserve.new.self (λ j. ap (λ m. get m j) c.reserve.ensures.rest_kept) in
    let n = g.S.Service.number c.in-Ok.seat in
    record {
      number = n;
      opened = c.in-Ok.ensures.opened;
      fresh = c.in-Ok.ensures.fresh;
      more = subst (λ ns. IsPermutation (n ∷ ns) (numbers_in g.S.Service c.insert_reserved.new.self)) same
          (numbers_more g.S.Service c.reserve.new.self c.insert_reserved.new.self c.insert_reserved.result _ c.insert_reserved.ensures.was_vacant
          c.insert_reserved.ensures.updates);
    }

pub returns-clause-served : goal.returns-clause-served
returns-clause-served g c =
    let all = AreServed-same g.S.Service g.P.Port c.args.service.now c.args.clients.now c.reserve.new.self (λ j. ap (λ m. get m j) c.reserve.ensures.rest_kept) c.requires.served in
    AreServed-more g.S.Service g.P.Port c.args.service.now c.open.new.self c.reserve.new.self c.insert_reserved.new.self c.insert_reserved.result _ all c.insert_reserved.ensures.updates
    c.open.ensures.others c.in-Ok.ensures.apart (g.met.S.Service.keeps_limit _ _ c.open.ensures.goes_on) (
      (
        silence,
        c.in-Ok.ensures.new,
        rw c.limit.ensures (fresh _ _ _ _ _ (ap (λ (w : Wiring). w.held) c.new.ensures) (ap (λ (w : Wiring). w.owed) c.new.ensures)
            c.requires.given c.requires.written c.requires.reads c.requires.writes),
      ),
      (λ e. absurd (false_true e)),
      tt,
    )
