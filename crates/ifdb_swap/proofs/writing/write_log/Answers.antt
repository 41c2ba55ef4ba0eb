use Rattle.std.proofs.lemmas.Result.{on_ok_weaker}
use Rattle.ifdb_reopen.proofs.Unopened.{IsTitledFrom, titled_unopened, told_behind}
use Rattle.ifdb_swap.proofs.Deciding.{err_any, ok_any}
use Rattle.ifdb_swap.proofs.Files.{own_title}
use Rattle.ifdb_swap.proofs.writing.write_log.Goals as goal

pub returns-in-Ok-clause-written : goal.returns-in-Ok-clause-written
returns-in-Ok-clause-written g c =
    let t = g.D.Disk.tells c.args.disk in
    let u = g.D.Disk.tells c.entitle.new.disk in
    let k : IsTitledFrom t u = record { present = g.D.Disk.present c.args.disk; titled = c.in-Ok.ensures.titled; entitles = c.in-Ok.ensures.kept; moments = c.entitle.ensures.moments } in
    on_ok_weaker c.write_titled.result.result (λ holds told. holds (told_behind t u k told)) c.write_titled.ensures.written

pub returns-in-Ok-clause-own : goal.returns-in-Ok-clause-own
returns-in-Ok-clause-own g c =
    let t = g.D.Disk.tells c.args.disk in
    let u = g.D.Disk.tells c.entitle.new.disk in
    let k : IsTitledFrom t u = record { present = g.D.Disk.present c.args.disk; titled = c.in-Ok.ensures.titled; entitles = c.in-Ok.ensures.kept; moments = c.entitle.ensures.moments } in
    ok_any c.write_titled.result.result (λ other. own_title t u k other)

pub returns-in-Ok-clause-others : goal.returns-in-Ok-clause-others
returns-in-Ok-clause-others g c =
    let t = g.D.Disk.tells c.args.disk in
    let u = g.D.Disk.tells c.entitle.new.disk in
    let k : IsTitledFrom t u = record { present = g.D.Disk.present c.args.disk; titled = c.in-Ok.ensures.titled; entitles = c.in-Ok.ensures.kept; moments = c.entitle.ensures.moments } in
    err_any c.write_titled.result.result (λ other. absurd (own_title t u k other))

pub returns-in-Err-clause-others : goal.returns-in-Err-clause-others
returns-in-Err-clause-others g c = λ other. titled_unopened (g.D.Disk.tells c.args.disk) (g.D.Disk.tells c.entitle.new.disk) c.entitle.ensures.moments
