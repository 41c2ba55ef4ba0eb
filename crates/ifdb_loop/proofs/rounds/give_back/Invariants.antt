use Rattle.std.proofs.Common.{◌≡◌, length}
use Rattle.ifdb_loop.specs.Crowd.{AreServed, numbers_in}
use Rattle.ifdb_loop.specs.Rounds.{IsInOrder, IsSteady}
use Rattle.ifdb_loop.proofs.rounds.give_back.Given as goal

-- each connection is served, and each that was given back was
abbrev pub invariant-loop-key : goal.invariant-loop-key
invariant-loop-key g l = record {
  ready : g.S.Service.ready l.service;
  goes_on : g.S.Service.goes_on l.fn.service l.service;
  kept : g.S.Service.is_kept l.service;
  served : AreServed g.S.Service g.G.Port.Port l.service l.clients;
  order : IsInOrder g.S.Service g.G.Port.Port g.G.Gate l.service l.gate (numbers_in g.S.Service l.clients);
  out : g.G.Gate.out l.gate ≡ length (numbers_in g.S.Service l.clients);
  steady : IsSteady g.G.Gate l.fn.gate l.gate;
}
