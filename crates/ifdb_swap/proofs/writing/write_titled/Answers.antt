use Rattle.std.proofs.Common.{sym, subst}
use Rattle.std.specs.Prelude.{OnOk}
use Rattle.ifdb_log.specs.Behind.{Fronted, behind}
use Rattle.ifdb_log.specs.Title.{IsLog, IsSettled}
use Rattle.ifdb_extract.specs.Writing.{GoesOn}
use Rattle.ifdb_reopen.specs.Files.{IsTold}
use Rattle.ifdb_reopen.proofs.Restarts.{behind_begun, front_begun}
use Rattle.ifdb_swap.specs.Swapped.{HoldsFileOf}
use Rattle.ifdb_swap.proofs.Files.{written_file}
use Rattle.ifdb_swap.proofs.writing.write_titled.Goals.{in-Err-Disk, in-Err-OutOfMemory, in-Ok}
use Rattle.ifdb_swap.proofs.writing.write_titled.Goals as goal

pub returns-clause-written : goal.returns-clause-written
returns-clause-written g c =
    let tells = g.D.Disk.tells in
    let begun = g.B.Origin.begun in
    let front = c.new-behind.result in
    let now = c.write.new.disk in
    let x = c.args.extract.now in
    let path = behind_begun tells front.disk c.args.disk begun front.size c.new-behind.ensures.disk c.requires.begun c.new-behind.ensures.size in
    let first : Fronted 16 begun begun = front_begun tells front.disk c.args.disk begun front.size c.new-behind.ensures.disk c.requires.begun c.new-behind.ensures.size front.fronted in
    let titled : IsSettled IsLog begun = subst (IsSettled IsLog) (sym c.requires.begun) c.requires.titled in
    let later : GoesOn (behind 16 begun) (behind now.size (tells now.disk)) = subst (λ z. GoesOn z (behind now.size (tells now.disk))) path c.write.ensures.later in
    elim c.match-write.branch [
      | in-Ok w ↦
          subst (λ r. OnOk r (IsTold (tells c.args.disk) → HoldsFileOf (tells c.into_disk.result) x)) (sym w.result-is) (λ told.
          subst (λ d. HoldsFileOf (tells d) x) (sym c.into_disk.ensures.disk)
          (written_file now.size begun (tells now.disk) x (subst IsTold (sym c.requires.begun) told) titled first now.fronted later w.in-Ok.ensures.written))
      | in-Err-Disk w ↦ subst (λ r. OnOk r (IsTold (tells c.args.disk) → HoldsFileOf (tells c.into_disk.result) x)) (sym w.result-is) tt
      | in-Err-OutOfMemory w ↦ subst (λ r. OnOk r (IsTold (tells c.args.disk) → HoldsFileOf (tells c.into_disk.result) x)) (sym w.result-is) tt
    ]
