use Rattle.std.proofs.Common.{◌≡◌, Ok, sym, subst}
use Rattle.std.specs.Prelude.{IfOk, IsTrue, Result}
use Rattle.ifdb_wire.specs.declared.fault.Fault.{Fault}
use Rattle.ifdb_catalog.specs.Binding.{bound}
use Rattle.ifdb_model.specs.Session.{Seen}
use Rattle.ifdb_model.specs.Writes.{Written, is_delete, writes_of}
use Rattle.ifdb_snapshot.specs.Writing.{are_fit}
use Rattle.ifdb_txn.specs.Answers.{Gives}
use Rattle.ifdb_db.specs.Kept.{keeps_parents}
use Rattle.ifdb_db.specs.Outside.{unless_orphaned, Writes}
use Rattle.ifdb_db.proofs.Writing.{answered, fits_unless, rooted_unless}
use Rattle.ifdb_db.proofs.db.Db.written.Goals as goal

pub returns-clause-found : goal.returns-clause-found
returns-clause-found c =
    let found = c.in_ok-found.found in
    let bound = subst (λ (x : Seen). bound x.public c.args.asker c.args.request ≡ Ok found) c.seen-seen.ensures.seen c.in_ok-found.ensures.bound in
    let gives = subst (λ (x : Seen). Gives (writes_of x.public c.args.asker x.rows c.args.label.now found) c.written-written.result) c.seen-seen.ensures.seen c.written-written.ensures.written in
    let same = subst (λ (x : Seen). c.unless_orphaned-written.result ≡ unless_orphaned (is_delete found) x.rows c.written-written.result) c.seen-seen.ensures.seen c.unless_orphaned-written.ensures in
    subst (λ (o : Result Written Fault). Writes c.args.asker c.args.label.now c.args.request c.args.self.now o) (sym same)
    (answered c.args.self.now c.args.asker c.args.label.now c.args.request c.requires.form found bound c.written-written.result gives)

pub returns-clause-rooted : goal.returns-clause-rooted
returns-clause-rooted c =
    let found = c.in_ok-found.found in
    let bound = subst (λ (x : Seen). bound x.public c.args.asker c.args.request ≡ Ok found) c.seen-seen.ensures.seen c.in_ok-found.ensures.bound in
    let gives = subst (λ (x : Seen). Gives (writes_of x.public c.args.asker x.rows c.args.label.now found) c.written-written.result) c.seen-seen.ensures.seen c.written-written.ensures.written in
    let same = subst (λ (x : Seen). c.unless_orphaned-written.result ≡ unless_orphaned (is_delete found) x.rows c.written-written.result) c.seen-seen.ensures.seen c.unless_orphaned-written.ensures in
    subst (λ (o : Result Written Fault). IfOk o (λ (w : Written). IsTrue (keeps_parents c.args.self.now.seen.rows w.writes))) (sym same)
    (rooted_unless c.args.self.now c.args.asker c.args.label.now c.args.request c.requires.form found bound c.written-written.result gives c.is_sound.ensures.parents)

pub returns-clause-fit : goal.returns-clause-fit
returns-clause-fit c =
    let fit = subst (λ (x : Seen). IfOk c.written-written.result (λ (w : Written). IsTrue (are_fit x.public w.writes))) c.seen-seen.ensures.seen c.written-written.ensures.fit in
    subst (λ (o : Result Written Fault). IfOk o (λ (w : Written). IsTrue (are_fit c.args.self.now.seen.public w.writes))) (sym c.unless_orphaned-written.ensures)
    (fits_unless _ _ (λ (w : Written). IsTrue (are_fit c.args.self.now.seen.public w.writes)) c.written-written.result fit)
