use Rattle.std.proofs.Common.{◌≡◌, ◌+◌, length, arith}
use Rattle.std.proofs.lemmas.Grind.{common_steps}
use Rattle.ifdb_script.proofs.Stepping.{opens_so}
use Rattle.ifdb_script.proofs.script.open.Goals as goal

pub returns-in-Some : goal.returns-in-Some
returns-in-Some c =
    let n : c.in-Some.number ≡ length c.args.room.now.clients + 1 = grind (arith, common_steps) in
    opens_so c.args.room.now c.open.new.self c.in-Some.number c.open.result c.open.new.out.text n c.open.ensures.opened c.open.ensures.told c.open.ensures.refused c.open.ensures.memory
