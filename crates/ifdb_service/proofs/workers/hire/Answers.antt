use Rattle.std.proofs.Common.{rules, subst, ◌≡◌, ◌<◌, ◌+◌, ◌∷◌, [], ◌++◌, ◌∙◌, ap, length, vec_len, vec_capacity, arith}
use Rattle.ifdb_history.specs.History.{IsRight}
use Rattle.ifdb_session.specs.Starts.{start_of}
use Rattle.ifdb_service.specs.Workers.{GoesOnWithout}
use Rattle.ifdb_service.proofs.Crew.{not_hired, can_split, hired, all_hired, pushed_so, split_orderly}
use Rattle.ifdb_service.proofs.workers.hire.Goals as goal

pub loop-door-init : goal.loop-door-init
loop-door-init g c =
    let r = c.requires in
    let laws = c.laws_hold.ensures in
    let lens = c.args.doors.ok in
    let same : vec_len c.args.doors ≡ length c.args.doors.items = omega arith in
    let more = r.keeper_shares in
    let room = r.room in
    not_hired g.Q.Records g.S.Settles g.D.Door c.args.hall.now c.args.limit c.args.keeper.now c.args.pass.now c.args.doors.items c.into_iter-door-iterator.result.rest.items c.args.workers.now.items (vec_capacity c.args.workers.now)
    laws (search rules) r.pass r.keeper (more.0, more.1, omega arith) r.most r.none (omega arith)

pub begin-worker-requires-clause-orderly : goal.begin-worker-requires-clause-orderly
begin-worker-requires-clause-orderly g c κs within =
    let e = c.split-own.ensures in
    split_orderly (IsRight (start_of g.Q.Records.first)) c.args.pass.now c.split-own.result c.requires.orderly (e.given_history ∙ c.loop-door.invariant.seen) e.given_places

pub split-own_keeper-requires-clause-ready : goal.split-own_keeper-requires-clause-ready
split-own_keeper-requires-clause-ready g c = c.loop-door.invariant.keeper_left.ready

pub split-own_keeper-requires-clause-shares : goal.split-own_keeper-requires-clause-shares
split-own_keeper-requires-clause-shares g c =
    let left : c.loop-door.door-iterator.rest.items ≡ c.in-Some.door ∷ c.next.new.self.rest.items = search rules in
    can_split g.Q.Records g.S.Settles g.D.Door c.args.hall.now c.args.limit c.args.keeper.now _ _ _ _ _ _ _ _ _ left c.loop-door.invariant

pub loop-door-preserved : goal.loop-door-preserved
loop-door-preserved g c =
    let e = c.split-own.ensures in
    let k = c.split-own_keeper.ensures in
    let laws = c.laws_hold.ensures in
    let left : c.loop-door.door-iterator.rest.items ≡ c.in-Some.door ∷ c.next.new.self.rest.items = search rules in
    let one : length c.loop-door.door-iterator.rest.items ≡ length c.next.new.self.rest.items + 1 = ap length left ∙ omega arith in
    let fits = c.loop-door.invariant.fits in
    let room : vec_len c.loop-door.workers < vec_capacity c.loop-door.workers = let lens = c.loop-door.workers.ok in omega arith in
    let more : c.push.new.self.items ≡ c.loop-door.workers.items ++ c.begin-worker.result ∷ [] = pushed_so c.push.result _ _ _ (c.push.ensures.succeeds room) c.push.ensures.items in
    hired g.Q.Records g.S.Settles g.D.Door c.args.hall.now c.args.limit c.args.keeper.now _ c.loop-door.pass _ c.loop-door.keeper _ _ _ _ c.in-Some.door _ c.next.new.self.rest.items _ _ c.begin-worker.result
    laws left c.loop-door.invariant e.left e.left_shares e.left_history e.left_places k.ready k.goes_on k.left c.begin-worker.ensures.door
    (λ _. c.begin-worker.ensures.fresh c.args.keeper.now (laws.further _ _ _ c.loop-door.invariant.keeper_left.knows k.given)) more (search rules)

pub returns-clause-keeper : goal.returns-clause-keeper
returns-clause-keeper g c =
    let lens = c.args.doors.ok in
    let same : length c.args.doors.items ≡ vec_len c.args.doors = omega arith in
    subst (GoesOnWithout g.S.Settles c.args.keeper.now c.loop-door.keeper) same
    (all_hired g.Q.Records g.S.Settles g.D.Door c.args.hall.now c.args.limit c.args.keeper.now _ _ _ _ c.loop-door.door-iterator.rest.items _ _ (search rules) c.loop-door.invariant)
