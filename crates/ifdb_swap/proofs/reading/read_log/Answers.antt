use Rattle.std.proofs.lemmas.Result.{IfOk-weaker}
use Rattle.ifdb_reopen.proofs.Unopened.{IsTitledFrom}
use Rattle.ifdb_swap.specs.Swapped.{IsExtractIn}
use Rattle.ifdb_swap.proofs.Files.{extract_before, kept_before, kept_titled, none_before}
use Rattle.ifdb_swap.proofs.reading.read_log.Goals as goal

pub returns-in-Ok-clause-extract : goal.returns-in-Ok-clause-extract
returns-in-Ok-clause-extract g c =
    let t = g.D.Disk.tells c.args.disk in
    let u = g.D.Disk.tells c.entitle.new.disk in
    let k : IsTitledFrom t u = record { present = g.D.Disk.present c.args.disk; titled = c.in-Ok.ensures.titled; entitles = c.in-Ok.ensures.kept; moments = c.entitle.ensures.moments } in
    IfOk-weaker c.read_titled.result.extract (IsExtractIn u) (IsExtractIn t) (λ x is. extract_before t u x k is) c.read_titled.ensures.extract

pub returns-in-Ok-clause-kept : goal.returns-in-Ok-clause-kept
returns-in-Ok-clause-kept g c =
    let t = g.D.Disk.tells c.args.disk in
    let u = g.D.Disk.tells c.entitle.new.disk in
    let k : IsTitledFrom t u = record { present = g.D.Disk.present c.args.disk; titled = c.in-Ok.ensures.titled; entitles = c.in-Ok.ensures.kept; moments = c.entitle.ensures.moments } in
    kept_before t u (g.D.Disk.tells c.read_titled.result.disk) k c.read_titled.ensures.kept

pub returns-in-Ok-clause-damaged : goal.returns-in-Ok-clause-damaged
returns-in-Ok-clause-damaged g c = λ at is.
    let t = g.D.Disk.tells c.args.disk in
    let u = g.D.Disk.tells c.entitle.new.disk in
    let k : IsTitledFrom t u = record { present = g.D.Disk.present c.args.disk; titled = c.in-Ok.ensures.titled; entitles = c.in-Ok.ensures.kept; moments = c.entitle.ensures.moments } in
    none_before t u k (c.read_titled.ensures.damaged at is)

pub returns-in-Err-clause-kept : goal.returns-in-Err-clause-kept
returns-in-Err-clause-kept g c = kept_titled (g.D.Disk.tells c.args.disk) (g.D.Disk.tells c.entitle.new.disk) c.entitle.ensures.moments
