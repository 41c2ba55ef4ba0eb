use Rattle.std.proofs.Common.{◌∙◌, ℕ, List, ap, subst}
use Rattle.std.specs.List.{flat_map}
use Rattle.ifdb_log.specs.Pieces.{pieces}
use Rattle.ifdb_row.specs.declared.row.Row.{Row}
use Rattle.ifdb_extract.specs.Texts.{Extracted}
use Rattle.ifdb_extract.specs.Walks.{PutsRows}
use Rattle.ifdb_extract.specs.Writing.{Puts}
use Rattle.ifdb_extract.proofs.Writing.{all_held, later_on, on_both}
use Rattle.ifdb_extract.proofs.extract.Extract.write.Goals as goal

pub returns-in_err-put_changes-clause-later : goal.returns-in_err-put_changes-clause-later
returns-in_err-put_changes-clause-later g c =
    later_on (g.D.Disk.tells c.args.disk.now) (g.D.Disk.tells c.begin.new.disk) (g.D.Disk.tells c.put_changes.new.disk) c.begin.ensures.later c.put_changes.ensures.later

pub returns-in_err-put_rows-clause-later : goal.returns-in_err-put_rows-clause-later
returns-in_err-put_rows-clause-later g c =
    later_on (g.D.Disk.tells c.args.disk.now) (g.D.Disk.tells c.put_changes.new.disk) (g.D.Disk.tells c.put_rows.new.disk)
    (later_on (g.D.Disk.tells c.args.disk.now) (g.D.Disk.tells c.begin.new.disk) (g.D.Disk.tells c.put_changes.new.disk) c.begin.ensures.later c.put_changes.ensures.later) c.put_rows.ensures.later

pub returns-clause-later : goal.returns-clause-later
returns-clause-later g c =
    later_on (g.D.Disk.tells c.args.disk.now) (g.D.Disk.tells c.put_rows.new.disk) (g.D.Disk.tells c.finish.new.disk)
    (
    later_on (g.D.Disk.tells c.args.disk.now) (g.D.Disk.tells c.put_changes.new.disk) (g.D.Disk.tells c.put_rows.new.disk)
    (later_on (g.D.Disk.tells c.args.disk.now) (g.D.Disk.tells c.begin.new.disk) (g.D.Disk.tells c.put_changes.new.disk) c.begin.ensures.later c.put_changes.ensures.later) c.put_rows.ensures.later
    ) c.finish.ensures.later

pub returns-clause-written : goal.returns-clause-written
returns-clause-written g c =
    let t = g.D.Disk.tells c.begin.new.disk in
    let u = g.D.Disk.tells c.put_changes.new.disk in
    let v = g.D.Disk.tells c.put_rows.new.disk in
    let x : Extracted = c.args.self.now in
    let changes : Puts (flat_map pieces x.changes) t c.in_ok-writer.writer u c.put_changes.new.writer =
    subst (λ (l : List (List ℕ)). Puts (flat_map pieces l) t c.in_ok-writer.writer u c.put_changes.new.writer) (c.deref.ensures.value ∙ ap (λ (x : Extracted). x.changes) c.self.view_is) c.in_ok-put_changes.ensures.put in
    let rows : PutsRows x.rows u c.put_changes.new.writer v c.put_rows.new.writer =
    subst (λ (l : List Row). PutsRows l u c.put_changes.new.writer v c.put_rows.new.writer) (ap (λ (x : Extracted). x.rows) c.self.view_is) c.in_ok-put_rows.ensures.put in
    on_both c.finish.result c.finish.ensures.finished c.finish.ensures.finished (λ finished again.
    all_held c.held_images.ensures c.texts_are_read_again.ensures x t u v (g.D.Disk.tells c.finish.new.disk)
    c.in_ok-writer.writer c.put_changes.new.writer c.put_rows.new.writer (g.D.Disk.present c.finish.new.disk) c.in_ok-writer.ensures.begun changes rows finished)
