use Rattle.std.proofs.Common.{◌≡◌, subst}
use Rattle.std.proofs.lemmas.Result.{err_from_is_err_and}
use Rattle.ifdb_model.specs.Session.{Seen, Session}
use Rattle.ifdb_model.specs.Step.{hello, refuses}
use Rattle.ifdb_db.proofs.Answering.{not_greeted}
use Rattle.ifdb_db.proofs.db.Db.greet.Goals as goal

pub returns-in_err-principal-clause-answered : goal.returns-in_err-principal-clause-answered
returns-in_err-principal-clause-answered c =
    let fault = c.in_err-principal.field-0.0 in
    let exit = err_from_is_err_and c.from_residual.result c.from_residual.ensures.1 in
    let refused = subst (λ (x : Seen). (s : Session) → hello x.public s c.args.name.now c.args.key.now ≡ refuses s fault) c.seen-seen.ensures.seen c.in_err-principal.ensures.refused in
    rw (exit.1, exit.2) (not_greeted c.args.self.now c.args.session.now c.args.name.now c.args.key.now fault refused)
