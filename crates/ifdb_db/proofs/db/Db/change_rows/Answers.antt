use Rattle.std.proofs.Common.{◌≡◌, true, sym, subst, None, Some}
use Rattle.ifdb_db.specs.Answer.{answered_by}
use Rattle.ifdb_db.specs.Client.{Client}
use Rattle.ifdb_db.specs.Noting.{IsNoted}
use Rattle.ifdb_db.proofs.Noting.{noted_at}
use Rattle.ifdb_db.proofs.db.Db.change_rows.Goals as goal

pub returns-clause-noted : goal.returns-clause-noted
returns-clause-noted c = λ line.
    let s : Client = record { is_open = c.session.inside.is_open; principal = c.session.inside.principal; ceiling = c.session.inside.ceiling; label = c.session.inside.label; txn = c.session.inside.txn } in
    let back = sym c.session.view_is in
    let opened = subst (λ (z : Client). z.is_open ≡ true) back c.requires.open in
    let asker = subst (λ (z : Client). z.principal ≡ Some c.args.asker) back c.requires.asker in
    let outside = subst (λ (z : Client). z.txn ≡ None) back c.requires.outside in
    let at = noted_at c.args.self.now s c.args.asker c.args.request line c.args.note.now c.change_rows_at.new.note c.change_rows_at.result opened asker outside (c.change_rows_at.ensures.noted line) in
    subst (λ (z : Client). IsNoted (answered_by c.args.self.now z (Some c.args.asker) c.args.request) (Some c.args.asker) line c.args.note.now c.change_rows_at.new.note c.change_rows_at.result) c.session.view_is at
