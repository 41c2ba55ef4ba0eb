use Rattle.std.proofs.Common.{Err, ap, sym, subst}
use Rattle.ifdb_disk.specs.Clock.{Leaves}
use Rattle.ifdb_journal.specs.Reading.{IsOldOrShort, SpellsSame}
use Rattle.ifdb_log.specs.Behind.{behind}
use Rattle.ifdb_log.specs.Title.{IsLog, IsSettled}
use Rattle.ifdb_log.specs.declared.fault.LogFault.{LogFault}
use Rattle.ifdb_log.proofs.TextsRead.{no_texts}
use Rattle.ifdb_restart.specs.Restarted.{log_in}
use Rattle.ifdb_reopen.specs.Files.{IsOldOrBare, IsTold, ShowsLog}
use Rattle.ifdb_reopen.proofs.Restarts.{behind_begun, file_restarted, front_begun, reopen_left, reopened_shows, reopened_whole}
use Rattle.ifdb_reopen.proofs.reopening.reopen.Goals as goal

pub returns-in-Ok-restart-clause-shows : goal.returns-in-Ok-restart-clause-shows
returns-in-Ok-restart-clause-shows g c = λ told.
    let tells = g.D.Disk.tells in
    let begun = g.B.Origin.begun in
    let front = c.new-behind.result in
    let now = c.restart.new.disk in
    let path = behind_begun tells front.disk c.args.disk begun front.size c.new-behind.ensures.disk c.requires.begun c.new-behind.ensures.size in
    let first = front_begun tells front.disk c.args.disk begun front.size c.new-behind.ensures.disk c.requires.begun c.new-behind.ensures.size front.fronted in
    let titled : IsSettled IsLog begun = subst (IsSettled IsLog) (sym c.requires.begun) c.requires.titled in
    let leaves : Leaves (behind 16 begun) (behind now.size (tells now.disk)) (IsOldOrShort (behind 16 begun)) =
    subst (λ z. Leaves z (behind now.size (tells now.disk)) (IsOldOrShort z)) path c.in-Ok-restart.ensures.moments in
    reopened_shows (file_restarted no_texts) now.size begun (tells now.disk) (IsOldOrShort (behind 16 begun)) titled first now.fronted leaves
    c.in-Ok-restart.restarted.journal.at (log_in c.in-Ok-restart.restarted.made.items) c.in-Ok-restart.restarted.room (subst IsTold (sym c.requires.begun) told) c.in-Ok-restart.ensures.restarted

pub returns-in-Ok-restart-clause-moments : goal.returns-in-Ok-restart-clause-moments
returns-in-Ok-restart-clause-moments g c =
    let tells = g.D.Disk.tells in
    let begun = g.B.Origin.begun in
    let front = c.new-behind.result in
    let now = c.restart.new.disk in
    let path = behind_begun tells front.disk c.args.disk begun front.size c.new-behind.ensures.disk c.requires.begun c.new-behind.ensures.size in
    let first = front_begun tells front.disk c.args.disk begun front.size c.new-behind.ensures.disk c.requires.begun c.new-behind.ensures.size front.fronted in
    let titled : IsSettled IsLog begun = subst (IsSettled IsLog) (sym c.requires.begun) c.requires.titled in
    let leaves : Leaves (behind 16 begun) (behind now.size (tells now.disk)) (IsOldOrShort (behind 16 begun)) =
    subst (λ z. Leaves z (behind now.size (tells now.disk)) (IsOldOrShort z)) path c.in-Ok-restart.ensures.moments in
    subst (λ t. Leaves t (tells now.disk) (IsOldOrBare t)) c.requires.begun (reopen_left now.size begun (tells now.disk) titled first now.fronted leaves)

pub returns-in-Err-clause-damaged : goal.returns-in-Err-clause-damaged
returns-in-Err-clause-damaged g c = λ at is texts log shows.
    let tells = g.D.Disk.tells in
    let begun = g.B.Origin.begun in
    let front = c.new-behind.result in
    let now = c.restart.new.disk in
    let path = behind_begun tells front.disk c.args.disk begun front.size c.new-behind.ensures.disk c.requires.begun c.new-behind.ensures.size in
    let first = front_begun tells front.disk c.args.disk begun front.size c.new-behind.ensures.disk c.requires.begun c.new-behind.ensures.size front.fronted in
    let titled : IsSettled IsLog begun = subst (IsSettled IsLog) (sym c.requires.begun) c.requires.titled in
    let leaves : Leaves (behind 16 begun) (behind now.size (tells now.disk)) (IsOldOrShort (behind 16 begun)) =
    subst (λ z. Leaves z (behind now.size (tells now.disk)) (IsOldOrShort z)) path c.in-Err.ensures.moments in
    let same : SpellsSame (behind 16 begun) (behind now.size (tells now.disk)) =
    subst (λ z. SpellsSame z (behind now.size (tells now.disk))) path (c.in-Err.ensures.still at (ap (λ (f : LogFault). Err f) is)) in
    reopened_whole (file_restarted no_texts) now.size begun (tells now.disk) (IsOldOrShort (behind 16 begun)) titled first now.fronted leaves at texts log same
    (subst (λ o. ShowsLog o texts log) (sym c.requires.begun) shows) (c.in-Err.ensures.damaged at (ap (λ (f : LogFault). Err f) is))

pub returns-in-Err-clause-left : goal.returns-in-Err-clause-left
returns-in-Err-clause-left g c =
    let tells = g.D.Disk.tells in
    let begun = g.B.Origin.begun in
    let front = c.new-behind.result in
    let now = c.restart.new.disk in
    let path = behind_begun tells front.disk c.args.disk begun front.size c.new-behind.ensures.disk c.requires.begun c.new-behind.ensures.size in
    let first = front_begun tells front.disk c.args.disk begun front.size c.new-behind.ensures.disk c.requires.begun c.new-behind.ensures.size front.fronted in
    let titled : IsSettled IsLog begun = subst (IsSettled IsLog) (sym c.requires.begun) c.requires.titled in
    let leaves : Leaves (behind 16 begun) (behind now.size (tells now.disk)) (IsOldOrShort (behind 16 begun)) =
    subst (λ z. Leaves z (behind now.size (tells now.disk)) (IsOldOrShort z)) path c.in-Err.ensures.moments in
    subst (λ d. Leaves (tells c.args.disk) (tells d) (IsOldOrBare (tells c.args.disk))) (sym c.into_disk.ensures.disk)
    (subst (λ t. Leaves t (tells now.disk) (IsOldOrBare t)) c.requires.begun (reopen_left now.size begun (tells now.disk) titled first now.fronted leaves))
