use Rattle.std.proofs.Common.{◌≡◌, ◌∙◌, ◌≤◌, true, Ok, Err, ap, arith, sym, subst, rules}
use Rattle.std.specs.Prelude.{None, Some, IfOk, IfSome, OnErr, OnOk, Option}
use Rattle.ifdb_io.specs.Causes.{Rose}
use Rattle.ifdb_log.specs.Causes.{HasLogCause}
use Rattle.ifdb_log.specs.declared.fault.LogFault.{LogFault}
use Rattle.ifdb_extract.specs.Texts.{Extracted}
use Rattle.ifdb_folder.specs.Folders.{Gives}
use Rattle.ifdb_reopen.specs.Files.{IsTold, IsUnopened}
use Rattle.ifdb_swap.specs.Causes.{HasSpareCause}
use Rattle.ifdb_swap.specs.Folders.{Compacts}
use Rattle.ifdb_swap.specs.Swapped.{HoldsFileOf, IsExtractIn, IsOtherOn, IsWorth}
use Rattle.ifdb_swap.specs.declared.fault.CompactFault.TheVariants as fault
use Rattle.ifdb_swap.specs.declared.fault.SpareFault.{SpareFault}
use Rattle.ifdb_swap.specs.declared.when.When.TheVariants as when
use Rattle.ifdb_swap.proofs.Deciding.{caused_so}
use Rattle.ifdb_swap.proofs.Ends.{compacted, not_replaced, spare_not_taken, unneeded_back, unread_back, unwritten_back}
use Rattle.ifdb_swap.proofs.compaction.compact_in.Goals as goal

pub returns-in-Ok-None : goal.returns-in-Ok-None
returns-in-Ok-None g c =
    let f = g.F.Folder in
    let d = c.in_ok-old.old in
    let read = c.read_if-extract in
    let none : read.result.extract ≡ Ok None = cc (c.in-Ok-None.is, c.in-Ok-None.field-0-is) in
    unneeded_back g.F.Disk.Disk.tells g.F.Disk.Disk.faults c.args.when c.args.name.now c.args.spare.now (λ e. c.requires.apart (sym e)) (f.tells c.args.folder.now) (f.tells c.take.new.self) (f.tells c.give.new.self)
    (f.faults c.args.folder.now) (f.faults c.give.new.self) d read.result.disk c.in_ok-old.ensures.taken c.give.ensures.given read.ensures.kept (c.give.ensures.faults ∙ c.in_ok-old.ensures.cause.kept)
    (read.ensures.asked none) (read.ensures.unneeded none)

pub returns-in-Err : goal.returns-in-Err
returns-in-Err g c =
    let f = g.F.Folder in
    let d = c.in_ok-old.old in
    let read = c.read_if-extract in
    let told : read.result.extract ≡ Err c.in-Err.fault = cc c.in-Err.is in
    unread_back g.F.Disk.Disk.tells g.F.Disk.Disk.faults c.args.when c.args.name.now c.args.spare.now (λ e. c.requires.apart (sym e)) (f.tells c.args.folder.now) (f.tells c.take.new.self) (f.tells c.give-in-Err.new.self)
    (f.faults c.args.folder.now) (f.faults c.give-in-Err.new.self) d read.result.disk c.in_ok-old.ensures.taken c.give-in-Err.ensures.given read.ensures.kept c.in-Err.fault
    (c.give-in-Err.ensures.faults ∙ c.in_ok-old.ensures.cause.kept)
    (caused_so (Option Extracted) _ _ c.in-Err.fault (subst (HasLogCause (g.F.Disk.Disk.faults d) (g.F.Disk.Disk.faults read.result.disk)) told read.ensures.cause))
    (λ at e. read.ensures.damaged at (told ∙ ap (λ (x : LogFault). Err x) e)) (λ e. read.ensures.other (told ∙ ap (λ (x : LogFault). Err x) e))

pub returns-in-Err-take : goal.returns-in-Err-take
returns-in-Err-take g c =
    let f = g.F.Folder in
    let d = c.in_ok-old.old in
    let read = c.read_if-extract in
    let t = f.tells c.args.folder.now in
    let u = f.tells c.take.new.self in
    let v = f.tells c.give-in-Err-take.new.self in
    let m = f.faults c.args.folder.now in
    let n = f.faults c.give-in-Err-take.new.self in
    let calm : f.faults c.take.new.self ≡ m = c.in_ok-old.ensures.cause.kept in
    let back : n ≡ f.faults c.take-2.new.self = c.give-in-Err-take.ensures.faults in
    let gives : Gives c.args.name.now read.result.disk u v = subst (λ x. Gives c.args.name.now read.result.disk x v) c.in-Err-take.ensures.err c.give-in-Err-take.ensures.given in
    let later : f.faults c.take.new.self ≤ f.faults c.take-2.new.self = c.in-Err-take.ensures.cause.later in
    let rose : Rose m n = subst (λ x. Rose x n) calm (subst (λ x. Rose (f.faults c.take.new.self) x) (sym back) c.in-Err-take.ensures.cause.failed) in
    spare_not_taken g.F.Disk.Disk.tells g.F.Disk.Disk.faults c.args.when c.args.name.now c.args.spare.now (λ e. c.requires.apart (sym e)) t u v m n d read.result.disk
    c.in_ok-old.ensures.taken gives read.ensures.kept (omega (arith, calm, back, later)) rose

pub returns : goal.returns
returns g c =
    let f = g.F.Folder in
    let d = c.in_ok-old.old in
    let e = c.in-Ok.new in
    let read = c.read_if-extract in
    let wrote = c.write_log-result in
    let told = c.in-Err-result.is in
    let others = subst (λ r. OnErr r (IsOtherOn (g.F.Disk.Disk.tells e) → IsUnopened (g.F.Disk.Disk.tells e) (g.F.Disk.Disk.tells wrote.result.disk))) told wrote.ensures.others in
    let cause = subst (HasSpareCause (g.F.Disk.Disk.faults e) (g.F.Disk.Disk.faults wrote.result.disk)) told wrote.ensures.cause in
    unwritten_back g.F.Disk.Disk.tells g.F.Disk.Disk.faults c.args.when c.args.name.now c.args.spare.now (λ i. c.requires.apart (sym i)) (f.tells c.args.folder.now) (f.tells c.take.new.self) (f.tells c.take-2.new.self)
    (f.tells c.give_both.new.folder) (f.faults c.args.folder.now) (f.faults c.give_both.new.folder) d e read.result.disk wrote.result.disk c.in_ok-old.ensures.taken c.in-Ok.ensures.taken read.ensures.kept
    c.in-Err-result.fault c.give_both.ensures.given (c.give_both.ensures.faults ∙ c.in-Ok.ensures.cause.kept ∙ c.in_ok-old.ensures.cause.kept) cause
    (λ i. wrote.ensures.taken (told ∙ ap (λ (x : SpareFault). Err x) i)) others

pub returns-in-Ok-result : goal.returns-in-Ok-result
returns-in-Ok-result g c =
    let f = g.F.Folder in
    let tells = g.F.Disk.Disk.tells in
    let d = c.in_ok-old.old in
    let e = c.in-Ok.new in
    let read = c.read_if-extract in
    let wrote = c.write_log-result in
    let x = c.in-Ok-Some.extract in
    let is : read.result.extract ≡ Ok (Some x) = cc (c.in-Ok-Some.is, c.in-Ok-Some.field-0-is) in
    let extract : IsExtractIn (tells d) x = subst (λ r. IfOk r (λ found. IfSome found (IsExtractIn (tells d)))) is read.ensures.extract in
    let worth : c.args.when ≡ when.IfWorth → IsWorth true (tells d) = subst (λ r. IfOk r (λ found. IfSome found (λ y. c.args.when ≡ when.IfWorth → IsWorth true (tells d)))) is read.ensures.needed in
    let written : IsTold (tells e) → HoldsFileOf (tells wrote.result.disk) x = subst (λ r. OnOk r (IsTold (tells e) → HoldsFileOf (tells wrote.result.disk) x)) c.in-Ok-result.is wrote.ensures.written in
    let own : IsOtherOn (tells e) → ⊥ = subst (λ r. OnOk r (IsOtherOn (tells e) → ⊥)) c.in-Ok-result.is wrote.ensures.own in
    compacted tells g.F.Disk.Disk.faults c.args.when c.args.name.now c.args.spare.now (λ i. c.requires.apart (sym i)) (f.tells c.args.folder.now) (f.tells c.take.new.self) (f.tells c.take-2.new.self)
    (f.tells c.replace.new.self) (f.faults c.args.folder.now) (f.faults c.replace.new.self) d e read.result.disk wrote.result.disk c.in_ok-old.ensures.taken c.in-Ok.ensures.taken read.ensures.kept
    c.compacted_texts_restore.ensures x extract written own c.in_ok-replace-in-Ok-result.ensures.replaced
    (c.in_ok-replace-in-Ok-result.ensures.cause.kept ∙ c.in-Ok.ensures.cause.kept ∙ c.in_ok-old.ensures.cause.kept) worth

pub returns-in_err-replace-in-Ok-result : goal.returns-in_err-replace-in-Ok-result
returns-in_err-replace-in-Ok-result g c =
    let f = g.F.Folder in
    let tells = g.F.Disk.Disk.tells in
    let d = c.in_ok-old.old in
    let e = c.in-Ok.new in
    let read = c.read_if-extract in
    let wrote = c.write_log-result in
    let x = c.in-Ok-Some.extract in
    let m = f.faults c.args.folder.now in
    let n = f.faults c.replace.new.self in
    let is : read.result.extract ≡ Ok (Some x) = cc (c.in-Ok-Some.is, c.in-Ok-Some.field-0-is) in
    let extract : IsExtractIn (tells d) x = subst (λ r. IfOk r (λ found. IfSome found (IsExtractIn (tells d)))) is read.ensures.extract in
    let written : IsTold (tells e) → HoldsFileOf (tells wrote.result.disk) x = subst (λ r. OnOk r (IsTold (tells e) → HoldsFileOf (tells wrote.result.disk) x)) c.in-Ok-result.is wrote.ensures.written in
    let own : IsOtherOn (tells e) → ⊥ = subst (λ r. OnOk r (IsOtherOn (tells e) → ⊥)) c.in-Ok-result.is wrote.ensures.own in
    let calm : f.faults c.take-2.new.self ≡ m = c.in-Ok.ensures.cause.kept ∙ c.in_ok-old.ensures.cause.kept in
    let later : f.faults c.take-2.new.self ≤ n = c.in_err-replace-in-Ok-result.ensures.cause.later in
    let rose : Rose m n = subst (λ y. Rose y n) calm c.in_err-replace-in-Ok-result.ensures.cause.failed in
    let told : c.from_residual-in_err-replace-in-Ok-result.result ≡ Err fault.Folder = search rules in
    subst (λ r. Compacts tells g.F.Disk.Disk.faults c.args.when c.args.name.now c.args.spare.now (f.tells c.args.folder.now) (f.tells c.replace.new.self) m n r) (sym told)
    (not_replaced tells g.F.Disk.Disk.faults c.args.when c.args.name.now c.args.spare.now (λ i. c.requires.apart (sym i)) (f.tells c.args.folder.now) (f.tells c.take.new.self) (f.tells c.take-2.new.self)
    (f.tells c.replace.new.self) m n d e read.result.disk wrote.result.disk c.in_ok-old.ensures.taken c.in-Ok.ensures.taken read.ensures.kept c.compacted_texts_restore.ensures x extract written own
    c.in_err-replace-in-Ok-result.ensures.err (omega (arith, calm, later)) rose)
