use Rattle.std.proofs.Common.{◌≡◌, true, refl, sym, ◌∙◌, subst, Ok, Err, Some}
use Rattle.std.proofs.lemmas.Result.{err_from_is_err_and}
use Rattle.ifdb_db.specs.declared.told.Told.{Told}
use Rattle.ifdb_db.specs.declared.told.Told.TheVariants as tells
use Rattle.ifdb_model.specs.Step.{ends, rolls_back, leaves_us}
use Rattle.ifdb_db.specs.Client.{Client, standing}
use Rattle.ifdb_db.specs.Inside.{IsDenied, IsTold}
use Rattle.ifdb_db.specs.Lent.{IsLabelInside, IsFoundAlone}
use Rattle.ifdb_db.proofs.Answering.{client_is}
use Rattle.ifdb_db.proofs.Lending.{answers_so, denied_so, left_so, room_so}
use Rattle.ifdb_db.proofs.session.Session.find.Goals as goal
use Rattle.ifdb_db.proofs.session.Session.find.Goals.{in-Replies, in-Commits, in-RollsBack, in-Leaves}

pub returns-in_err-reply : goal.returns-in_err-reply
returns-in_err-reply c =
    let x = c.in-Some-txn.txn in
    let s : Client = record { is_open = c.self.inside.is_open; principal = c.self.inside.principal; ceiling = c.self.inside.ceiling; label = c.self.inside.label; txn = c.self.inside.txn } in
    let e : Client = record s { label = c.ask.new.label; txn = Some c.ask.new.self } in
    let back = sym c.self.view_is in
    let is = client_is c.in-Some.asker (Some x) s (subst (λ (z : Client). z.is_open ≡ true) back c.requires.lent.is_open) c.in-Some.is c.in-Some-txn.is in
    let made = subst (IsLabelInside s.label) c.in-Some-txn.is (subst (λ (z : Client). IsLabelInside z.label z.txn) back c.requires.lent.label) in
    let fault = c.in_err-reply.field-0.0 in
    let exit = err_from_is_err_and c.from_residual-in_err-reply.result c.from_residual-in_err-reply.ensures.1 in
    let cause = subst (λ z. IsDenied (standing c.in-Some.asker z s.label) c.ask.new.label x c.ask.new.self c.in_ok-request.request fault) c.as_ref.ensures.value c.in_err-reply.ensures.told in
    let denied = denied_so (standing c.in-Some.asker s.ceiling s.label) x c.in_ok-request.request c.args.line.now c.in_ok-request.ensures.request s is e c.ask.new.label c.ask.new.self fault refl made cause in
    rw (exit.1, exit.2) (subst (λ (z : Client). IsFoundAlone c.args.line.now z e (Err fault)) c.self.view_is denied)

pub returns : goal.returns
returns c =
    let x = c.in-Some-txn.txn in
    let s : Client = record { is_open = c.self.inside.is_open; principal = c.self.inside.principal; ceiling = c.self.inside.ceiling; label = c.self.inside.label; txn = c.self.inside.txn } in
    let e : Client = record s { label = c.ask.new.label; txn = Some c.ask.new.self } in
    let back = sym c.self.view_is in
    let is = client_is c.in-Some.asker (Some x) s (subst (λ (z : Client). z.is_open ≡ true) back c.requires.lent.is_open) c.in-Some.is c.in-Some-txn.is in
    let so = subst (λ z. IsTold (standing c.in-Some.asker z s.label) c.ask.new.label x c.ask.new.self c.in_ok-request.request (Ok c.in_ok-reply.field-0)) c.as_ref.ensures.value c.in_ok-reply.ensures.told in
    let answered = answers_so (standing c.in-Some.asker s.ceiling s.label) x c.in_ok-request.request c.args.line.now c.in_ok-request.ensures.request s is e c.ask.new.label c.ask.new.self in
    let left = left_so (standing c.in-Some.asker s.ceiling s.label) x c.in_ok-request.request c.args.line.now c.in_ok-request.ensures.request s is e c.ask.new.label c.ask.new.self in
    let for_room = room_so (standing c.in-Some.asker s.ceiling s.label) x c.in_ok-request.request c.args.line.now c.in_ok-request.ensures.request c.ask.new.label c.ask.new.self in
    let told = λ (o : Told) (i : c.in_ok-reply.field-0 ≡ o). subst (λ (z : Told). IsTold (standing c.in-Some.asker s.ceiling s.label) c.ask.new.label x c.ask.new.self c.in_ok-request.request (Ok z)) i so in
    elim c.match-branch-3.branch [
      | in-Replies w ↦ rw w.result-is (subst (λ (z : Client). IsFoundAlone c.args.line.now z e (Ok (Some w.in-Replies.reply))) c.self.view_is
          (answered w.in-Replies.reply refl c.ask.ensures.made (told (tells.Replies w.in-Replies.reply) w.in-Replies.is)))
      | in-Commits w ↦ rw w.result-is (left ends refl (told tells.Commits w.in-Commits.is) ∙ c.self.view_is, for_room ends refl (told tells.Commits w.in-Commits.is))
      | in-RollsBack w ↦ rw w.result-is (left rolls_back refl (told tells.RollsBack w.in-RollsBack.is) ∙ c.self.view_is, for_room rolls_back refl (told tells.RollsBack w.in-RollsBack.is))
      | in-Leaves w ↦ rw w.result-is (left leaves_us refl (told tells.Leaves w.in-Leaves.is) ∙ c.self.view_is, for_room leaves_us refl (told tells.Leaves w.in-Leaves.is))
    ]
