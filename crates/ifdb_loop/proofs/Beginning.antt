-- The order of a loop before the first connection has come.
use Rattle.std.proofs.Common.{◌≡◌, [], arith}
use Rattle.std.specs.Prelude.{IfSome}
use Rattle.std.proofs.lemmas.List.Elements.{All-nil}
use Rattle.std.proofs.lemmas.List.Sorted.{IsPermutation-refl}
use Rattle.ifdb_loop.specs.declared.gate.Gate as gate
use Rattle.ifdb_loop.specs.declared.port.Port as port
use Rattle.ifdb_loop.specs.declared.service.Service as service
use Rattle.ifdb_loop.specs.Standing.{WasServed}
use Rattle.ifdb_loop.specs.Rounds.{IsInOrder}

module _ {S T P G : Type 0} (services : service.Ghosts S T) (ports : port.Ghosts P) (gates : gate.Ghosts G P) where
  -- no session was opened, and no connection was given back
  pub order_first : (s : S) (g : G) → services.opened s ≡ [] → IfSome (gates.back g) (λ told. told ≡ []) → IsInOrder services ports gates s g []
  order_first s g opened back = record {
    visits = [];
    back = back;
    served = All-nil (WasServed services ports s (gates.faults g));
    opened = rw opened (IsPermutation-refl []);
    once = λ n. rw opened (omega arith);
  }
