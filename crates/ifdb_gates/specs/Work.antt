-- The work of one worker.
use Rattle.std.specs.Prelude.{◌≡◌, ◌⊎◌, false, [], IfSome}
use Rattle.ifdb_io.specs.Causes.{Rose}
use Rattle.ifdb_loop.specs.declared.gate.Gate as gate
use Rattle.ifdb_loop.specs.declared.port.Port as port
use Rattle.ifdb_loop.specs.declared.service.Service as service
use Rattle.ifdb_loop.specs.Rounds.{IsInOrder}
use Rattle.ifdb_gates.specs.declared.work.Worker.{Worker}

-- no connection of a gate is out, and none was given back
pub record IsNewGate {G P : Type 0} (gates : gate.Ghosts G P) (g : G) : Type 0 where
  pub none_out : gates.out g ≡ 0
  pub none_back : IfSome (gates.back g) (λ told. told ≡ [])

module _ {G P S T : Type 0} (services : service.Ghosts S T) (gates : gate.Ghosts G P) where
  -- a worker may begin: its service has opened no session, and its gate is new
  pub record CanServe (w : Worker G S) : Type 0 where
    pub ready : services.ready w.service
    pub none : services.opened w.service ≡ []
    pub gate : IsNewGate gates w.gate

  -- A worker served its gate, and is the second now: all connections were given back, and its service opened the sessions of these
  -- and no other. The gate is at its end, or its count of faults rose, or no more can be kept.
  pub record HasServed (ports : port.Ghosts P) (w w' : Worker G S) : Type 0 where
    pub ready : services.ready w'.service
    pub goes_on : services.goes_on w.service w'.service
    pub order : IsInOrder services ports gates w'.service w'.gate []
    pub none_out : gates.out w'.gate ≡ 0
    pub cause : gates.ended w'.gate ≡ false → Rose (gates.faults w.gate) (gates.faults w'.gate) ⊎ services.has_failed w'.service
