use Rattle.std.proofs.Common.{◌≡◌, length}
use Rattle.ifdb_loop.specs.Crowd.{AreServed, numbers_in}
use Rattle.ifdb_loop.specs.Rounds.{IsInOrder}
use Rattle.ifdb_loop.proofs.rounds.go_on.Given as goal

-- each connection is served, and each that was given back was
abbrev pub invariant-loop-arrivals : goal.invariant-loop-arrivals
invariant-loop-arrivals g l = record {
  ready : g.S.Service.ready l.service;
  goes_on : g.S.Service.goes_on l.fn.service l.service;
  served : AreServed g.S.Service g.G.Port.Port l.service l.clients;
  order : IsInOrder g.S.Service g.G.Port.Port g.G.Gate l.service l.gate (numbers_in g.S.Service l.clients);
  out : g.G.Gate.out l.gate ≡ length (numbers_in g.S.Service l.clients);
  faults : g.G.Gate.faults l.gate ≡ g.G.Gate.faults l.fn.gate;
}

-- each wait leaves fewer
abbrev pub decreases-loop-arrivals : goal.decreases-loop-arrivals
decreases-loop-arrivals g l = g.G.Gate.most l.gate
