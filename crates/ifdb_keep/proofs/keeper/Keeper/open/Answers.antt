use Rattle.std.proofs.Common.{◌≡◌, ◌+◌, ◌-◌, [], ◌∷◌, length, Some, arith, refl, ap, ◌∙◌}
use Rattle.std.proofs.lemmas.Grind.{common_steps}
use Rattle.ifdb_wire.specs.declared.reply.Reply.TheVariants as reply
use Rattle.ifdb_wire.specs.Text.{reply_text}
use Rattle.ifdb_model.specs.Run.{opens}
use Rattle.ifdb_keep.specs.Taken.{LostLine}
use Rattle.ifdb_keep.proofs.Taking.{on_err, took_unopened, took_open, lost_open}
use Rattle.ifdb_keep.proofs.keeper.Keeper.open.Goals as goal

pub returns-in_default-clause-took : goal.returns-in_default-clause-took
returns-in_default-clause-took g c =
    let keeper = c.args.self.now in
    took_unopened keeper.base keeper.room keeper.room c.refuse.new.out.text (g.D.Disk.tells c.args.disk.now) keeper.journal.at refl c.refuse.ensures

pub returns-then-not-open-clause-took : goal.returns-then-not-open-clause-took
returns-then-not-open-clause-took g c =
    let keeper = c.args.self.now in
    took_unopened keeper.base keeper.room c.open.new.self c.open.new.out.text (g.D.Disk.tells c.args.disk.now) keeper.journal.at (c.if-not-open.ensures.refused refl) (c.if-not-open.ensures.memory refl)

pub returns-in_err-add-clause-lost : goal.returns-in_err-add-clause-lost
returns-in_err-add-clause-lost g c =
    let keeper = c.args.self.now in
    let tells = g.D.Disk.tells in
    let number : c.in-Some.number ≡ length keeper.room.clients + 1 = grind (arith, common_steps) in
    let shown : c.saturating_sub-shown.result ≡ c.in-Some.number - keeper.base = grind (arith, common_steps) in
    let text = c.if-not-open.ensures.told refl ∙ ap (λ k. reply_text (Some k) reply.Opened) shown in
    on_err (LostLine keeper.base keeper.room c.open.new.self (opens ∷ []) (tells c.args.disk.now) keeper.journal.at (tells c.add.new.disk)) c.from_residual.result
    (lost_open keeper.base keeper.room c.open.new.self c.open.new.out.text (tells c.args.disk.now) keeper.journal.at c.in-Some.number (tells c.add.new.disk) number (c.if-not-open.ensures.opened refl) text
    c.add.ensures.moments)

pub returns-clause-took : goal.returns-clause-took
returns-clause-took g c =
    let keeper = c.args.self.now in
    let tells = g.D.Disk.tells in
    let number : c.in-Some.number ≡ length keeper.room.clients + 1 = grind (arith, common_steps) in
    let shown : c.saturating_sub-shown.result ≡ c.in-Some.number - keeper.base = grind (arith, common_steps) in
    let text = c.if-not-open.ensures.told refl ∙ ap (λ k. reply_text (Some k) reply.Opened) shown in
    took_open keeper.base keeper.room c.open.new.self c.open.new.out.text (tells c.args.disk.now) keeper.journal.at c.in-Some.number (tells c.add.new.disk) c.add.new.journal.at number
    (c.if-not-open.ensures.opened refl) text (c.in_ok-add.ensures.added, c.in_ok-add.ensures.moments)
