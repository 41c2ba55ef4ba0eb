use Rattle.std.proofs.Common.{◌≡◌}
use Rattle.ifdb_loop.specs.Crowd.{AreServed, numbers_in}
use Rattle.ifdb_loop.proofs.crowd.round.Given as goal

-- the turns so far left each connection served
abbrev pub invariant-loop-key : goal.invariant-loop-key
invariant-loop-key g l = record {
  ready : g.S.Service.ready l.service;
  goes_on : g.S.Service.goes_on l.fn.service l.service;
  opened : g.S.Service.opened l.service ≡ g.S.Service.opened l.fn.service;
  served : AreServed g.S.Service g.P.Port l.service l.clients;
  numbers : numbers_in g.S.Service l.clients ≡ numbers_in g.S.Service l.fn.clients;
}

-- and so did the writes, and nothing was asked since all was settled
abbrev pub invariant-loop-key-2 : goal.invariant-loop-key-2
invariant-loop-key-2 g l = record {
  served : AreServed g.S.Service g.P.Port l.service l.clients;
  numbers : numbers_in g.S.Service l.clients ≡ numbers_in g.S.Service l.fn.clients;
}
