use Rattle.std.proofs.Common.{rules, subst, ◌≡◌, ◌<◌, ◌+◌, ◌∷◌, [], ◌++◌, ◌∙◌, ap, length, vec_len, vec_capacity, arith}
use Rattle.ifdb_history.specs.History.{IsRight}
use Rattle.ifdb_session.specs.Starts.{start_of}
use Rattle.ifdb_service.specs.Workers.{GoesOnWithout}
use Rattle.ifdb_service.proofs.Crew.{pushed_so, split_orderly}
use Rattle.ifdb_gates.proofs.Crew.{not_hired, can_split, next_is_new, hired, all_hired}
use Rattle.ifdb_gates.proofs.workers.hire.Goals as goal

pub loop-gate-init : goal.loop-gate-init
loop-gate-init g c =
    let r = c.requires in
    let laws = c.laws_hold.ensures in
    let lens = c.args.gates.ok in
    let same : vec_len c.args.gates ≡ length c.args.gates.items = omega arith in
    let more = r.keeper_shares in
    let room = r.room in
    let supplied = r.means in
    not_hired g.Q.Records g.S.Settles g.G.Gate c.args.hall.now c.args.key c.args.limit c.args.keeper.now c.args.pass.now c.args.gates.items c.into_iter-gate-iterator.result.rest.items c.args.workers.now.items (vec_capacity c.args.workers.now) (vec_len c.args.means.now)
    laws (search rules) r.pass r.keeper (more.0, more.1, omega arith) r.new r.none (omega arith) (omega arith)

pub begin-worker-requires-clause-orderly : goal.begin-worker-requires-clause-orderly
begin-worker-requires-clause-orderly g c κs within =
    let e = c.split-own.ensures in
    split_orderly (IsRight (start_of g.Q.Records.first)) c.args.pass.now c.split-own.result c.requires.orderly (e.given_history ∙ c.loop-gate.invariant.seen) e.given_places

pub begin-worker-requires-clause-new : goal.begin-worker-requires-clause-new
begin-worker-requires-clause-new g c κs within =
    let left : c.loop-gate.gate-iterator.rest.items ≡ c.in-Some.gate ∷ c.next.new.self.rest.items = search rules in
    next_is_new g.Q.Records g.S.Settles g.G.Gate c.args.hall.now c.args.key c.args.limit c.args.keeper.now _ _ _ _ _ _ _ _ _ _ left c.loop-gate.invariant

pub split-own_keeper-requires-clause-ready : goal.split-own_keeper-requires-clause-ready
split-own_keeper-requires-clause-ready g c = c.loop-gate.invariant.keeper_left.ready

pub split-own_keeper-requires-clause-shares : goal.split-own_keeper-requires-clause-shares
split-own_keeper-requires-clause-shares g c =
    let left : c.loop-gate.gate-iterator.rest.items ≡ c.in-Some.gate ∷ c.next.new.self.rest.items = search rules in
    can_split g.Q.Records g.S.Settles g.G.Gate c.args.hall.now c.args.key c.args.limit c.args.keeper.now _ _ _ _ _ _ _ _ _ _ left c.loop-gate.invariant

pub loop-gate-preserved : goal.loop-gate-preserved
loop-gate-preserved g c =
    let e = c.split-own.ensures in
    let k = c.split-own_keeper.ensures in
    let laws = c.laws_hold.ensures in
    let left : c.loop-gate.gate-iterator.rest.items ≡ c.in-Some.gate ∷ c.next.new.self.rest.items = search rules in
    let one : length c.loop-gate.gate-iterator.rest.items ≡ length c.next.new.self.rest.items + 1 = ap length left ∙ omega arith in
    let fits = c.loop-gate.invariant.fits in
    let room : vec_len c.loop-gate.workers < vec_capacity c.loop-gate.workers = let lens = c.loop-gate.workers.ok in omega arith in
    let more : c.push.new.self.items ≡ c.loop-gate.workers.items ++ c.begin-worker.result ∷ [] = pushed_so c.push.result _ _ _ (c.push.ensures.succeeds room) c.push.ensures.items in
    hired g.Q.Records g.S.Settles g.G.Gate c.args.hall.now c.args.key c.args.limit c.args.keeper.now _ c.loop-gate.pass _ c.loop-gate.keeper _ _ _ _ c.in-Some.gate _ c.next.new.self.rest.items _ _ (vec_len c.loop-gate.means) (vec_len c.pop.new.self) c.begin-worker.result
    laws left c.loop-gate.invariant e.left e.left_shares e.left_history e.left_places k.ready k.goes_on k.left c.begin-worker.ensures.gate
    (c.begin-worker.ensures.fresh c.args.keeper.now (laws.further _ _ _ c.loop-gate.invariant.keeper_left.knows k.given)) more (search rules) (search rules)

pub returns-clause-keeper : goal.returns-clause-keeper
returns-clause-keeper g c =
    let lens = c.args.gates.ok in
    let same : length c.args.gates.items ≡ vec_len c.args.gates = omega arith in
    subst (GoesOnWithout g.S.Settles c.args.keeper.now c.loop-gate.keeper) same
    (all_hired g.Q.Records g.S.Settles g.G.Gate c.args.hall.now c.args.key c.args.limit c.args.keeper.now _ _ _ _ c.loop-gate.gate-iterator.rest.items _ _ _ (search rules) c.loop-gate.invariant)
