use Rattle.std.proofs.Common.{◌≡◌, ◌<◌, ◌∙◌, sym, subst, arith, rules}
use Rattle.std.specs.Prelude.{unwrap_or}
use Rattle.ifdb_io.specs.Causes.{Rose}
use Rattle.ifdb_loop.specs.declared.ending.Ending.TheVariants as ends
use Rattle.ifdb_loop.specs.Dialogues.{settled}
use Rattle.ifdb_loop.specs.Standing.{traffic_of}
use Rattle.ifdb_loop.specs.Closings.{EndsItself}
use Rattle.ifdb_loop.proofs.Endings.{went, lost, own_lost}
use Rattle.ifdb_loop.proofs.crowd.flush.Goals as goal

pub returns-then-is_ok-clause-served : goal.returns-then-is_ok-clause-served
returns-then-is_ok-clause-served g c =
    let s = c.requires.served in
    let w = c.write.ensures in
    let before = traffic_of g.P.Port c.args.client.now.port in
    let now = traffic_of g.P.Port c.write.new.self.port in
    let same : g.P.Port.unwritten c.write.new.self.port ≡ g.P.Port.unwritten c.args.client.now.port = search rules in (
      (
        settled s.0.0,
        rw w.seat (g.met.S.Service.keeps_all _ _ _ c.requires.kept s.0.1),
        rw (w.ending, w.room, w.held) (went _ _ before now _ _ _ _ _ s.0.0 w.given w.left w.unread w.sends w.cause.later (λ _. same) s.0.2),
      ),
      (λ is_lost. rw same (s.1 (sym w.lost ∙ is_lost))),
      subst EndsItself (sym w.ending) s.2,
    )

pub returns-clause-served : goal.returns-clause-served
returns-clause-served g c =
    let s = c.requires.served in
    let w = c.write.ensures in
    let before = traffic_of g.P.Port c.args.client.now.port in
    let now = traffic_of g.P.Port c.write.new.self.port in
    let rose : Rose (g.P.Port.unwritten c.args.client.now.port) (g.P.Port.unwritten c.write.new.self.port) = search rules in
    let fault : 0 < g.P.Port.unwritten c.write.new.self.port = omega (arith, rose) in
    let ending : c.unwrap_or.result ≡ unwrap_or c.args.client.now.ending ends.LinkWrite = search rules in (
      (
        settled s.0.0,
        rw w.seat (g.met.S.Service.keeps_all _ _ _ c.requires.kept s.0.1),
        rw (ending, w.room, w.held) (lost _ _ before now _ _ _ _ _ s.0.0 w.given w.left w.unread w.sends w.cause.later fault s.0.2),
      ),
      (λ _. fault),
      rw ending (own_lost c.args.client.now.ending s.2),
    )
