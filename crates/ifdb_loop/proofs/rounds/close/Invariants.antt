use Rattle.std.proofs.Common.{◌≡◌, length, ◌<◌, ℕ, None}
use Rattle.slab.specs.Slab.{get}
use Rattle.ifdb_loop.specs.Standing.{HasHalted}
use Rattle.ifdb_loop.specs.Crowd.{AreServed, numbers_in}
use Rattle.ifdb_loop.specs.Rounds.{IsInOrder, IsSteady}
use Rattle.ifdb_loop.proofs.rounds.close.Given as goal

-- each connection is served, and each that was given back was
abbrev pub invariant-loop-key : goal.invariant-loop-key
invariant-loop-key g l = record {
  ready : g.S.Service.ready l.service;
  goes_on : g.S.Service.goes_on l.fn.service l.service;
  served : AreServed g.S.Service g.G.Port.Port l.service l.clients;
  order : IsInOrder g.S.Service g.G.Port.Port g.G.Gate l.service l.gate (numbers_in g.S.Service l.clients);
  out : g.G.Gate.out l.gate ≡ length (numbers_in g.S.Service l.clients);
  steady : IsSteady g.G.Gate l.fn.gate l.gate;
  halted : HasHalted g.S.Service g.G.Port.Port l.service (g.G.Gate.faults l.gate) l.fn.halt;
  gone : (j : ℕ) → j < l.key → get l.clients j ≡ None;
  slots : length l.clients.slots ≡ length l.fn.clients.slots;
}
