use Rattle.std.proofs.Common.{◌≡◌, ◌++◌, rules}
use Rattle.ifdb_loop.proofs.Endings.{refused, unheard}
use Rattle.ifdb_loop.proofs.turn.refuse_long.Goals as goal

pub returns-then-is_err-clause-stands : goal.returns-then-is_err-clause-stands
returns-then-is_err-clause-stands g c =
    let owed : c.put.new.self ≡ c.args.client.now.wires = search rules in
    λ held long s. (s.0, c.refuse_long.ensures.says _ _ s.1, rw (owed, g.met.S.Service.keeps_limit _ _ c.refuse_long.ensures.goes_on) (unheard _ _ _ _ held _ _ s.2))

pub returns-clause-stands : goal.returns-clause-stands
returns-clause-stands g c =
    let owed : c.put.new.self ≡ record { held = c.args.client.now.wires.held; owed = c.args.client.now.wires.owed ++ g.S.Service.long_text } = search rules in
    λ held long s. (s.0, c.refuse_long.ensures.says _ _ s.1, rw (owed, g.met.S.Service.keeps_limit _ _ c.refuse_long.ensures.goes_on) (refused _ _ _ _ held _ _ s.2 long))
