use Rattle.std.proofs.Common.{rules, refl, subst, vec_len, ◌≡◌, ◌∷◌, [], ◌++◌, ◌+◌, ◌∙◌, ap, length, length-append, arith}
use Rattle.ifdb_service.specs.Workers.{GoesOnWithout}
use Rattle.ifdb_gates.proofs.Crew.{all_ready, sent, joined, next_joins, all_served, all_seen, all_back}
use Rattle.ifdb_gates.proofs.Looped.{all_ran}
use Rattle.ifdb_gates.proofs.gates.serve_gates.Goals as goal

pub send-requires-after_bounds : goal.send-requires-after_bounds
send-requires-after_bounds g c κs within = all_ready g.Q.Records g.S.Settles g.G.Gate c.args.hall.now c.args.key c.args.limit c.args.keeper.now _ c.hire.ensures.fresh

pub loop-worker-init : goal.loop-worker-init
loop-worker-init g c =
    let laws = c.laws_hold.ensures in
    let e = c.hire.ensures in
    let lens = c.args.gates.ok in
    let same : vec_len c.args.gates ≡ length c.args.gates.items = omega arith in
    let j = sent g.Q.Records g.S.Settles g.G.Gate c.args.hall.now c.args.key c.args.limit c.args.keeper.now g.G.Port.Port laws c.args.pass.now c.hire.new.pass c.hire.new.keeper c.args.gates.items _ c.hire.new.workers.items c.send.new.workers.items c.into_iter-worker-iterator.result.rest.items c.in-Ok-with_capacity-2.back.items
    e.pass c.requires.orderly (search rules) e.history e.places c.requires.none (subst (GoesOnWithout g.S.Settles c.args.keeper.now c.hire.new.keeper) same e.keeper) e.gates e.fresh refl (all_ran g.Q.Records g.S.Settles g.G.Gate g.G.Port.Port _ _ c.send.ensures) (search rules) (search rules) in
    (j, search rules)

pub join_pass-requires-clause-from : goal.join_pass-requires-clause-from
join_pass-requires-clause-from g c =
    let laws = c.laws_hold.ensures in
    let gone : c.loop-worker.worker-iterator.rest.items ≡ c.in-Some.worker ∷ c.next.new.self.rest.items = search rules in
    (next_joins g.Q.Records g.S.Settles g.G.Gate c.args.hall.now c.args.key c.args.limit c.args.keeper.now g.G.Port.Port laws c.loop-worker.invariant.0.left _ _ c.in-Some.worker c.loop-worker.invariant.0.home gone).belongs

pub join-requires-clause-ready : goal.join-requires-clause-ready
join-requires-clause-ready g c = c.loop-worker.invariant.0.keeper_left.ready

pub join-requires-clause-other : goal.join-requires-clause-other
join-requires-clause-other g c =
    let laws = c.laws_hold.ensures in
    let gone : c.loop-worker.worker-iterator.rest.items ≡ c.in-Some.worker ∷ c.next.new.self.rest.items = search rules in
    (next_joins g.Q.Records g.S.Settles g.G.Gate c.args.hall.now c.args.key c.args.limit c.args.keeper.now g.G.Port.Port laws c.loop-worker.invariant.0.left _ _ c.in-Some.worker c.loop-worker.invariant.0.home gone).ready

pub join-requires-clause-one : goal.join-requires-clause-one
join-requires-clause-one g c =
    let laws = c.laws_hold.ensures in
    let gone : c.loop-worker.worker-iterator.rest.items ≡ c.in-Some.worker ∷ c.next.new.self.rest.items = search rules in
    let can = next_joins g.Q.Records g.S.Settles g.G.Gate c.args.hall.now c.args.key c.args.limit c.args.keeper.now g.G.Port.Port laws c.loop-worker.invariant.0.left _ _ c.in-Some.worker c.loop-worker.invariant.0.home gone in
    (c.args.keeper.now, c.loop-worker.invariant.0.keeper_left.knows, can.knows)

pub returns-clause-served : goal.returns-clause-served
returns-clause-served g c =
    let laws = c.laws_hold.ensures in
    all_served g.Q.Records g.S.Settles g.G.Gate c.args.hall.now c.args.key c.args.limit c.args.keeper.now g.G.Port.Port laws _ _ _ _ c.loop-worker.worker-iterator.rest.items _ c.loop-worker.invariant.0 (search rules)

pub returns-clause-sees : goal.returns-clause-sees
returns-clause-sees g c =
    let laws = c.laws_hold.ensures in
    all_seen g.Q.Records g.S.Settles g.G.Gate c.args.hall.now c.args.key c.args.limit c.args.keeper.now g.G.Port.Port laws _ _ _ _ c.loop-worker.worker-iterator.rest.items _ c.loop-worker.invariant.0 (search rules)

pub returns-clause-keeper : goal.returns-clause-keeper
returns-clause-keeper g c =
    let laws = c.laws_hold.ensures in
    all_back g.Q.Records g.S.Settles g.G.Gate c.args.hall.now c.args.key c.args.limit c.args.keeper.now g.G.Port.Port laws _ _ _ _ c.loop-worker.worker-iterator.rest.items _ c.loop-worker.invariant.0 (search rules)

pub loop-worker-preserved : goal.loop-worker-preserved
loop-worker-preserved g c =
    let laws = c.laws_hold.ensures in
    let e = c.join_pass.ensures in
    let k = c.join.ensures in
    let gone : c.loop-worker.worker-iterator.rest.items ≡ c.in-Some.worker ∷ c.next.new.self.rest.items = search rules in
    let len : length c.loop-worker.worker-iterator.rest.items ≡ length c.next.new.self.rest.items + 1 = ap length gone ∙ omega arith in
    let room = c.loop-worker.invariant.1 in
    let more : c.push.new.self.items ≡ c.loop-worker.back.items ++ c.in-Some.worker.gate ∷ [] = search rules in
    let longer : length c.push.new.self.items ≡ length c.loop-worker.back.items + 1 = ap length more ∙ length-append c.loop-worker.back.items (c.in-Some.worker.gate ∷ []) in
    let kept = c.push.ensures.capacity in (
      joined g.Q.Records g.S.Settles g.G.Gate c.args.hall.now c.args.key c.args.limit c.args.keeper.now g.G.Port.Port laws _ c.loop-worker.pass _ c.loop-worker.keeper _ _ c.in-Some.worker c.loop-worker.worker-iterator.rest.items _ c.loop-worker.back.items _
          gone c.loop-worker.invariant.0 e.pass e.orderly e.begins e.from_begins e.places e.shares k.ready k.goes_on k.other k.shares more,
      omega arith,
    )
