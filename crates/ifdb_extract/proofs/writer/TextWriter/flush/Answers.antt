use Rattle.std.proofs.Common.{ap, subst, sym}
use Rattle.ifdb_journal.specs.Records.{Gathered}
use Rattle.ifdb_journal.specs.Reading.{IsReady}
use Rattle.ifdb_extract.specs.Writing.{Keeps, Writing}
use Rattle.ifdb_extract.proofs.Writing.{flushed, later_added, ready_again}
use Rattle.ifdb_extract.proofs.writer.TextWriter.flush.Goals as goal

pub returns-clause-kept : goal.returns-clause-kept
returns-clause-kept g c =
    let t = g.D.Disk.tells c.args.disk.now in
    let u = g.D.Disk.tells c.append_batch.new.disk in
    let w : Writing = record { at = c.self.inside.journal.at; waiting = c.self.inside.batch.records } in
    let v : Writing = record { at = c.append_batch.new.self.at; waiting = c.clear.new.self.records } in
    subst (λ x. Keeps t x u v) c.self.view_is (flushed t u w v c.in-Ok.ensures.added (ap (λ (b : Gathered). b.records) c.clear.ensures))

pub returns-clause-ready : goal.returns-clause-ready
returns-clause-ready g c =
    let t = g.D.Disk.tells c.args.disk.now in
    let u = g.D.Disk.tells c.append_batch.new.disk in
    let ready : IsReady t c.self.inside.journal.at = subst (λ (x : Writing). IsReady t x.at) (sym c.self.view_is) c.requires.ready in
    ready_again c.self.inside.batch.records t u c.self.inside.journal.at c.append_batch.new.self.at c.in-Ok.ensures.added ready

pub returns-clause-later : goal.returns-clause-later
returns-clause-later g c =
    let t = g.D.Disk.tells c.args.disk.now in
    let u = g.D.Disk.tells c.append_batch.new.disk in
    let ready : IsReady t c.self.inside.journal.at = subst (λ (x : Writing). IsReady t x.at) (sym c.self.view_is) c.requires.ready in
    later_added c.self.inside.batch.records t u c.self.inside.journal.at c.append_batch.ensures.moments ready
