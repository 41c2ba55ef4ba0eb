use Rattle.std.proofs.Common.{◌≡◌, true, sym, subst}
use Rattle.std.specs.Prelude.{IfOk, IsTrue, length}
use Rattle.ifdb_label.specs.Tags.{are_made}
use Rattle.ifdb_catalog.specs.Public.{Public}
use Rattle.ifdb_catalog.specs.Fits.{bound_fits}
use Rattle.ifdb_model.specs.Session.{Seen}
use Rattle.ifdb_model.specs.Writes.{writes_of}
use Rattle.ifdb_txn.specs.Answers.{Gives}
use Rattle.ifdb_snapshot.specs.Writing.{are_fit}
use Rattle.ifdb_snapshot.proofs.Sound.{fit_rows}
use Rattle.ifdb_snapshot.proofs.Writing.{gives_fit}
use Rattle.ifdb_snapshot.proofs.snapshot.Snapshot.written.Goals as goal

pub returns-clause-fit : goal.returns-clause-fit
returns-clause-fit c =
    let back = sym c.self.view_is in
    let made = subst (λ (x : Seen). are_made (length x.public.tags) c.args.label.now ≡ true) back c.requires.made in
    let fits = subst (λ (x : Seen). bound_fits x.public c.args.found.now ≡ true) back c.requires.fits in
    let gives = subst (λ (p : Public). Gives (writes_of p c.args.asker c.self.inside.rows.now c.args.label.now c.args.found.now) c.writes_of.result) c.catalog.ensures c.writes_of.ensures in
    subst (λ (x : Seen). IfOk c.writes_of.result (λ w. IsTrue (are_fit x.public w.writes))) c.self.view_is
    (gives_fit c.self.inside.public.now c.self.inside.rows.now c.args.asker c.args.label.now c.args.found.now c.writes_of.result (fit_rows (record { public = c.self.inside.public.now; rows = c.self.inside.rows.now }) c.self.invariant) made fits gives)
