use Rattle.std.proofs.Common.{◌≡◌, ◌∙◌, true, ap, refl, sym, subst, Ok, Some}
use Rattle.std.proofs.lemmas.Result.{err_from_is_err_and}
use Rattle.ifdb_db.specs.declared.told.Told.{Told}
use Rattle.ifdb_db.specs.Answer.{answered_by, commits_by, IsDone, IsUndone}
use Rattle.ifdb_db.specs.Client.{Client, standing}
use Rattle.ifdb_db.specs.Inside.{IsDenied, IsTold}
use Rattle.ifdb_db.specs.Noting.{IsNoted}
use Rattle.ifdb_db.proofs.Answering.{answer_denied_inside, answer_replied, client_is}
use Rattle.ifdb_db.proofs.Noting.{ends_noted, replied_noted}
use Rattle.ifdb_db.proofs.db.Db.answer_as.Goals as goal

pub returns-in_err-reply-clause-answered : goal.returns-in_err-reply-clause-answered
returns-in_err-reply-clause-answered c =
    let x = c.args.self.now in
    let s : Client = record { is_open = c.session.inside.is_open; principal = c.session.inside.principal; ceiling = c.session.inside.ceiling; label = c.session.inside.label; txn = c.session.inside.txn } in
    let e : Client = record s { label = c.ask.new.label; txn = Some c.ask.new.self } in
    let back = sym c.session.view_is in
    let is = client_is c.args.asker (Some c.in-Some.txn) s (subst (λ (z : Client). z.is_open ≡ true) back c.requires.open) (subst (λ (z : Client). z.principal ≡ Some c.args.asker) back c.requires.asker) c.in-Some.is in
    let fault = c.in_err-reply.field-0.0 in
    let exit = err_from_is_err_and c.from_residual.result c.from_residual.ensures.1 in
    let denied = subst (λ z. IsDenied (standing c.args.asker z s.label) c.ask.new.label c.in-Some.txn c.ask.new.self c.args.request fault) c.as_ref.ensures.value c.in_err-reply.ensures.told in
    let undone = answer_denied_inside (standing c.args.asker s.ceiling s.label) c.args.request x c.in-Some.txn s is e c.ask.new.label c.ask.new.self fault refl denied in
    rw (exit.1, exit.2) (subst (λ (z : Client). IsUndone (answered_by x z (Some c.args.asker) c.args.request) z e x x fault) c.session.view_is undone)

pub returns-in-Replies-clause-answered : goal.returns-in-Replies-clause-answered
returns-in-Replies-clause-answered c =
    let x = c.args.self.now in
    let s : Client = record { is_open = c.session.inside.is_open; principal = c.session.inside.principal; ceiling = c.session.inside.ceiling; label = c.session.inside.label; txn = c.session.inside.txn } in
    let e : Client = record s { label = c.ask.new.label; txn = Some c.ask.new.self } in
    let back = sym c.session.view_is in
    let is = client_is c.args.asker (Some c.in-Some.txn) s (subst (λ (z : Client). z.is_open ≡ true) back c.requires.open) (subst (λ (z : Client). z.principal ≡ Some c.args.asker) back c.requires.asker) c.in-Some.is in
    let under = subst (λ z. IsTold (standing c.args.asker z s.label) c.ask.new.label c.in-Some.txn c.ask.new.self c.args.request (Ok c.in_ok-reply.field-0)) c.as_ref.ensures.value c.in_ok-reply.ensures.told in
    let told = subst (λ (o : Told). IsTold (standing c.args.asker s.ceiling s.label) c.ask.new.label c.in-Some.txn c.ask.new.self c.args.request (Ok o)) c.in-Replies.is under in
    let done = answer_replied (standing c.args.asker s.ceiling s.label) c.args.request x c.in-Some.txn s is e c.ask.new.label c.ask.new.self c.in-Replies.reply c.is_sound.ensures refl told in
    subst (λ (z : Client). IsDone (answered_by x z (Some c.args.asker) c.args.request) z e x x c.in-Replies.reply) c.session.view_is done

pub returns-in-Replies-clause-noted : goal.returns-in-Replies-clause-noted
returns-in-Replies-clause-noted c =
    let x = c.args.self.now in
    let s : Client = record { is_open = c.session.inside.is_open; principal = c.session.inside.principal; ceiling = c.session.inside.ceiling; label = c.session.inside.label; txn = c.session.inside.txn } in
    let back = sym c.session.view_is in
    let is = client_is c.args.asker (Some c.in-Some.txn) s (subst (λ (z : Client). z.is_open ≡ true) back c.requires.open) (subst (λ (z : Client). z.principal ≡ Some c.args.asker) back c.requires.asker) c.in-Some.is in
    let under = subst (λ z. IsTold (standing c.args.asker z s.label) c.ask.new.label c.in-Some.txn c.ask.new.self c.args.request (Ok c.in_ok-reply.field-0)) c.as_ref.ensures.value c.in_ok-reply.ensures.told in
    let told = subst (λ (o : Told). IsTold (standing c.args.asker s.ceiling s.label) c.ask.new.label c.in-Some.txn c.ask.new.self c.args.request (Ok o)) c.in-Replies.is under in
    let done = replied_noted x s (standing c.args.asker s.ceiling s.label) c.in-Some.txn c.ask.new.self c.ask.new.label c.args.request c.args.line.now c.args.note.now c.in-Replies.reply is told in
    subst (λ (z : Client). IsNoted (answered_by x z (Some c.args.asker) c.args.request) (Some c.args.asker) c.args.line.now c.args.note.now c.args.note.now (Ok c.in-Replies.reply)) c.session.view_is done

pub returns-in-Commits-clause-noted : goal.returns-in-Commits-clause-noted
returns-in-Commits-clause-noted c =
    let x = c.args.self.now in
    let s : Client = record { is_open = c.session.inside.is_open; principal = c.session.inside.principal; ceiling = c.session.inside.ceiling; label = c.session.inside.label; txn = c.session.inside.txn } in
    let e : Client = record s { label = c.ask.new.label; txn = Some c.ask.new.self } in
    let under = subst (λ z. IsTold (standing c.args.asker z s.label) c.ask.new.label c.in-Some.txn c.ask.new.self c.args.request (Ok c.in_ok-reply.field-0)) c.as_ref.ensures.value c.in_ok-reply.ensures.told in
    let left = subst (λ (o : Told). IsTold (standing c.args.asker s.ceiling s.label) c.ask.new.label c.in-Some.txn c.ask.new.self c.args.request (Ok o)) c.in-Commits.is under in
    let same : e ≡ s = (λ i. record s { label = left.label i; txn = Some (left.txn i) }) ∙ ap (λ t. record s { txn = t }) (sym c.in-Some.is) in
    ends_noted x c.args.session.now c.args.asker c.args.request c.args.line.now c.args.note.now c.commit.new.note c.commit.result left.form
    (subst (λ (z : Client). IsNoted (commits_by x z) (Some c.args.asker) c.args.line.now c.args.note.now c.commit.new.note c.commit.result) (same ∙ c.session.view_is) (c.commit.ensures.noted (Some c.args.asker) c.args.line.now))
