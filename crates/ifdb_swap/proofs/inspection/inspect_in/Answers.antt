use Rattle.std.proofs.Common.{◌≡◌, ◌∙◌, Ok, Err, ap, subst, rules}
use Rattle.std.specs.Prelude.{IfOk}
use Rattle.ifdb_log.specs.Causes.{HasLogCause}
use Rattle.ifdb_log.specs.declared.fault.LogFault.{LogFault}
use Rattle.ifdb_extract.specs.Texts.{Extracted}
use Rattle.ifdb_swap.specs.Swapped.{IsExtractIn}
use Rattle.ifdb_swap.proofs.Deciding.{caused_so}
use Rattle.ifdb_swap.proofs.Inspecting.{inspected, not_read}
use Rattle.ifdb_swap.proofs.inspection.inspect_in.Goals as goal

pub returns-in-Ok : goal.returns-in-Ok
returns-in-Ok g c =
    let f = g.F.Folder in
    let tells = g.F.Disk.Disk.tells in
    let d = c.in_ok-disk.disk in
    let read = c.read_log-extract in
    let x = c.in-Ok.extract in
    let extract : IsExtractIn (tells d) x = subst (λ r. IfOk r (IsExtractIn (tells d))) c.in-Ok.is read.ensures.extract in
    inspected tells g.F.Disk.Disk.faults c.args.name.now (f.tells c.args.folder.now) (f.tells c.take.new.self) (f.tells c.give.new.self) (f.faults c.args.folder.now) (f.faults c.give.new.self)
    d read.result.disk c.in_ok-disk.ensures.taken c.give.ensures.given read.ensures.kept (c.give.ensures.faults ∙ c.in_ok-disk.ensures.cause.kept) x _ extract (c.changes.ensures, c.rows.ensures)

pub returns-in-Err : goal.returns-in-Err
returns-in-Err g c =
    let f = g.F.Folder in
    let tells = g.F.Disk.Disk.tells in
    let faults = g.F.Disk.Disk.faults in
    let d = c.in_ok-disk.disk in
    let read = c.read_log-extract in
    let told : read.result.extract ≡ Err c.in-Err.fault = c.in-Err.is in
    not_read tells faults c.args.name.now (f.tells c.args.folder.now) (f.tells c.take.new.self) (f.tells c.give.new.self) (f.faults c.args.folder.now) (f.faults c.give.new.self)
    d read.result.disk c.in_ok-disk.ensures.taken c.give.ensures.given read.ensures.kept (c.give.ensures.faults ∙ c.in_ok-disk.ensures.cause.kept) c.in-Err.fault
    (caused_so Extracted _ _ c.in-Err.fault (subst (HasLogCause (faults d) (faults read.result.disk)) told read.ensures.cause))
    (λ at e. read.ensures.damaged at (told ∙ ap (λ (x : LogFault). Err x) e)) (λ e. read.ensures.other (told ∙ ap (λ (x : LogFault). Err x) e))
