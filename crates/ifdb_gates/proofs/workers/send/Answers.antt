use denote.Exit.{no}
use denote.Param.{param}
use denote.Param.Send.{arg_send, param_send}
use Rattle.std.proofs.Common.{◌≡◌, ◌∙◌, ◌++◌, All, ap, arith, drop, length, take, sym, subst, rules}
use Rattle.std.proofs.Math.Seq.{take-append_seam}
use Rattle.ifdb_pool.specs.Work.{AllWorked}
use Rattle.ifdb_gates.specs.Work.{CanServe, HasServed}
use Rattle.ifdb_gates.specs.Crew.{desks}
use Rattle.ifdb_service.proofs.Rooms.{shared_room_send}
use Rattle.ifdb_gates.proofs.Sending.{place_send, service_send}
use Rattle.ifdb_gates.proofs.workers.send.Goals as goal

pub run_all-requires-send-S : goal.run_all-requires-send-S
run_all-requires-send-S g c κs within =
    param_send _ _ (arg_send _ no _ (service_send _ (param 0 g.row.R) (param 2 g.row.Q) (param 3 g.row.S) g.Q.Records (λ _. shared_room_send (param 2 g.row.Q) c.room_crosses.ensures.room c.type_bounds.send-Q) (λ _. c.type_bounds.sync-R) c.type_bounds.send-S))

pub run_all-requires-after_bounds : goal.run_all-requires-after_bounds
run_all-requires-after_bounds g c κs within =
    let same : c.deref_mut.result.now ≡ c.args.workers.now.items = search rules in
    subst (All (CanServe (desks g.Q.Records g.S.Settles) g.G.Gate)) (sym same) c.requires

pub run_all-requires-send-S-Seat : goal.run_all-requires-send-S-Seat
run_all-requires-send-S-Seat g c κs within = param_send _ _ (arg_send _ no _ (place_send c.room_crosses.ensures.session))

pub returns : goal.returns
returns g c =
    let now = c.run_all.new.workers in
    let Did = HasServed (desks g.Q.Records g.S.Settles) g.G.Gate g.G.Port.Port in
    let worked = subst (λ l. AllWorked Did l now) c.deref_mut.ensures.value c.run_all.ensures in
    let len = c.args.workers.now.ok in
    let size : c.args.workers.now.len ≡ length now = omega (arith, len, worked.0) in
    let all : take c.args.workers.now.len (now ++ drop (length now) c.args.workers.now.items) ≡ now =
    ap (λ n. take n (now ++ drop (length now) c.args.workers.now.items)) size ∙ take-append_seam now (drop (length now) c.args.workers.now.items) in
    subst (AllWorked Did c.args.workers.now.items) (sym all) worked
