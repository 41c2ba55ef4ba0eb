use denote.Exit.{no}
use denote.Param.{param}
use denote.Param.Send.{arg_send, param_send}
use Rattle.std.proofs.Common.{rules}
use Rattle.ifdb_service.proofs.Crew.{all_ready}
use Rattle.ifdb_service.proofs.Hosts.{host_send}
use Rattle.ifdb_service.proofs.Rooms.{shared_room_send}
use Rattle.ifdb_service.proofs.workers.send.Goals as goal

pub run_all-requires-send-H : goal.run_all-requires-send-H
run_all-requires-send-H g c κs within =
    param_send _ _ (arg_send _ no _ (host_send _ (param 0 g.row.R) (param 4 g.row.D-Link) (param 2 g.row.Q) (param 3 g.row.S) g.Q.Records (λ _. shared_room_send (param 2 g.row.Q) c.room_crosses.ensures.room c.type_bounds.send-Q) (λ _. c.type_bounds.sync-R) c.type_bounds.send-S))

pub run_all-requires-after_bounds : goal.run_all-requires-after_bounds
run_all-requires-after_bounds g c κs within =
    all_ready g.Q.Records g.S.Settles g.D.Door c.args.hall.now c.args.limit g.D.Link.Source g.D.Link.Sink c.args.workers.now.items c.deref_mut.result.now (search rules) c.requires.fresh
