use Rattle.std.proofs.Common.{◌≡◌, Ok, subst}
use Rattle.ifdb_catalog.specs.Binding.{bound}
use Rattle.ifdb_model.specs.Session.{Seen}
use Rattle.ifdb_model.specs.Writes.{writes_of}
use Rattle.ifdb_txn.specs.Answers.{Gives}
use Rattle.ifdb_db.proofs.Inside.{found_written}
use Rattle.ifdb_db.proofs.txn.Txn.written.Goals as goal

pub returns-clause-found : goal.returns-clause-found
returns-clause-found c =
    let bound = subst (λ (x : Seen). bound x.public c.args.asker c.args.request ≡ Ok c.in_ok-found.found) c.seen-seen.ensures c.in_ok-found.ensures.bound in
    let gives = subst (λ (x : Seen). Gives (writes_of x.public c.args.asker x.rows c.args.label.now c.in_ok-found.found) c.written-written.result) c.seen-seen.ensures c.written-written.ensures.written in
    found_written c.args.asker c.args.label.now c.args.self.now c.args.request c.requires.form c.in_ok-found.found c.written-written.result bound gives
