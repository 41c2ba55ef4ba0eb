use Rattle.std.proofs.Common.{Ok, Err, refl, subst}
use Rattle.std.proofs.lemmas.Result.{err_from_is_err_and}
use Rattle.ifdb_model.specs.Session.{Seen}
use Rattle.ifdb_model.specs.Step.{shows_label}
use Rattle.ifdb_db.specs.Client.{standing}
use Rattle.ifdb_db.specs.Inside.{IsSaidAlike}
use Rattle.ifdb_db.proofs.Inside.{denied, replied}
use Rattle.ifdb_db.proofs.Saying.{said_under}
use Rattle.ifdb_db.proofs.txn.Txn.show_label.Goals as goal

pub returns-in_err-reply : goal.returns-in_err-reply
returns-in_err-reply c = λ asker ceiling r f.
    let l = c.args.label.now in
    let fault = c.in_err-reply.field-0.0 in
    let exit = err_from_is_err_and c.from_residual.result c.from_residual.ensures.1 in
    let said = subst (λ (x : Seen). IsSaidAlike x asker l r (Err fault)) c.seen.ensures (c.in_err-reply.ensures asker r f) in
    rw (exit.1, exit.2) (denied (standing asker ceiling l) c.args.self.now r shows_label l fault f refl (said_under _ asker l r ceiling (Err fault) said))

pub returns : goal.returns
returns c = λ asker ceiling r f.
    let l = c.args.label.now in
    let told = c.in_ok-reply.reply in
    let said = subst (λ (x : Seen). IsSaidAlike x asker l r (Ok told)) c.seen.ensures (c.in_ok-reply.ensures asker r f) in
    replied (standing asker ceiling l) c.args.self.now r shows_label l told f refl (said_under _ asker l r ceiling (Ok told) said)
