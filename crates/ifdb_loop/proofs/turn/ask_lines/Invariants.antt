use Rattle.std.proofs.Common.{◌≡◌, None}
use Rattle.ifdb_loop.specs.Standing.{Stands, KeepsOthers}
use Rattle.ifdb_loop.proofs.turn.ask_lines.Given as goal

-- the lines so far were asked
abbrev pub invariant-loop : goal.invariant-loop
invariant-loop g l = record {
  ready : g.S.Service.ready l.service;
  goes_on : g.S.Service.goes_on l.fn.service l.service;
  opened : g.S.Service.opened l.service ≡ g.S.Service.opened l.fn.service;
  stands : Stands g.S.Service g.P.Port l.service l.client None l.chunk;
  number : g.S.Service.number l.client.seat ≡ g.S.Service.number l.fn.client.seat;
  others : KeepsOthers g.S.Service g.P.Port l.fn.service l.service (g.S.Service.number l.fn.client.seat);
  port : l.client.port ≡ l.fn.client.port;
  ending : l.client.ending ≡ l.fn.client.ending;
  lost : l.client.is_lost ≡ l.fn.client.is_lost;
}
