use Rattle.std.proofs.Common.{Ok, Err, refl, subst}
use Rattle.std.proofs.lemmas.Result.{err_from_is_err_and}
use Rattle.ifdb_model.specs.Session.{Seen}
use Rattle.ifdb_model.specs.Step.{looks}
use Rattle.ifdb_db.specs.Client.{standing}
use Rattle.ifdb_db.specs.Inside.{IsSaidAlike}
use Rattle.ifdb_db.proofs.Inside.{denied, replied}
use Rattle.ifdb_db.proofs.Saying.{said_under}
use Rattle.ifdb_db.proofs.txn.Txn.select.Goals as goal

pub returns-in_err-reply : goal.returns-in_err-reply
returns-in_err-reply c = λ ceiling.
    let l = c.args.label.now in
    let r = c.args.request in
    let fault = c.in_err-reply.field-0.0 in
    let exit = err_from_is_err_and c.from_residual.result c.from_residual.ensures.1 in
    let said = subst (λ (x : Seen). IsSaidAlike x c.args.asker l r (Err fault)) c.seen.ensures c.in_err-reply.ensures in
    rw (exit.1, exit.2) (denied (standing c.args.asker ceiling l) c.args.self.now r looks l fault c.requires.form refl (said_under _ c.args.asker l r ceiling (Err fault) said))

pub returns : goal.returns
returns c = λ ceiling.
    let l = c.args.label.now in
    let r = c.args.request in
    let told = c.in_ok-reply.reply in
    let said = subst (λ (x : Seen). IsSaidAlike x c.args.asker l r (Ok told)) c.seen.ensures c.in_ok-reply.ensures in
    replied (standing c.args.asker ceiling l) c.args.self.now r looks l told c.requires.form refl (said_under _ c.args.asker l r ceiling (Ok told) said)
