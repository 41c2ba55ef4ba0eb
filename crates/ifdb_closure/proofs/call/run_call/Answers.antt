use Rattle.std.proofs.Common.{◌≡◌, ◌+◌, length, arith}
use Rattle.std.proofs.lemmas.Grind.{common_steps}
use Rattle.ifdb_closure.proofs.Asking.{call_ends}
use Rattle.ifdb_closure.proofs.call.run_call.Goals as goal

pub returns : goal.returns
returns c =
    let number : c.in-Some.session ≡ length c.args.room.now.clients + 1 = grind (arith, common_steps) in
    call_ends c.args.room.now c.open_next.new.self c.ask_all-end.new.room c.leave.new.self c.in-Some.session c.args.caller _ c.args.shown c.ask_all-end.new.out.text c.ask_all-end.result
    c.requires.caller number c.in_ok-open_next.ensures.opened c.ask_all-end.ensures c.leave.ensures
