use Rattle.std.proofs.Common.{◌≡◌, ◌+◌, [], ◌∷◌, arith, refl, sym, ◌∙◌}
use Rattle.std.proofs.lemmas.Grind.{common_steps}
use Rattle.ifdb_model.specs.Run.{asks}
use Rattle.ifdb_keep.specs.Taken.{LostLine}
use Rattle.ifdb_keep.proofs.Taking.{on_err, took_unasked, took_quiet, took_ask, lost_ask}
use Rattle.ifdb_keep.proofs.keeper.Keeper.ask.Goals as goal

pub returns-in_default-clause-took : goal.returns-in_default-clause-took
returns-in_default-clause-took g c =
    let keeper = c.args.self.now in
    took_unasked keeper.base keeper.room keeper.room c.refuse.new.out.text (g.D.Disk.tells c.args.disk.now) keeper.journal.at c.args.n c.args.request.now refl c.refuse.ensures

pub returns-then-not-ask-clause-took : goal.returns-then-not-ask-clause-took
returns-then-not-ask-clause-took g c =
    let keeper = c.args.self.now in
    took_unasked keeper.base keeper.room c.ask.new.self c.ask.new.out.text (g.D.Disk.tells c.args.disk.now) keeper.journal.at c.args.n c.args.request.now (c.if-not-ask.ensures.refused refl)
    (c.if-not-ask.ensures.memory refl)

pub returns-then-not-is_kept-clause-took : goal.returns-then-not-is_kept-clause-took
returns-then-not-is_kept-clause-took g c =
    let keeper = c.args.self.now in
    let number : c.in-Some.number ≡ keeper.base + c.args.n = grind (arith, common_steps) in
    took_quiet keeper.base keeper.room c.ask.new.self c.ask.new.out.text (g.D.Disk.tells c.args.disk.now) keeper.journal.at c.in-Some.number c.args.n c.args.request.now number
    (sym c.has_record-is_kept.ensures ∙ c.if-not-is_kept.true) (c.if-not-ask.ensures.asked refl) (c.if-not-ask.ensures.told refl)

pub returns-in_err-add-clause-lost : goal.returns-in_err-add-clause-lost
returns-in_err-add-clause-lost g c =
    let keeper = c.args.self.now in
    let tells = g.D.Disk.tells in
    let number : c.in-Some.number ≡ keeper.base + c.args.n = grind (arith, common_steps) in
    on_err (LostLine keeper.base keeper.room c.ask.new.self (asks c.args.n c.args.request.now ∷ []) (tells c.args.disk.now) keeper.journal.at (tells c.add.new.disk)) c.from_residual.result
    (lost_ask keeper.base keeper.room c.ask.new.self c.ask.new.out.text (tells c.args.disk.now) keeper.journal.at c.in-Some.number c.args.n c.args.request.now (tells c.add.new.disk) number
    (sym c.has_record-is_kept.ensures ∙ c.if-not-is_kept.false) (c.if-not-ask.ensures.asked refl) (c.if-not-ask.ensures.told refl) c.add.ensures.moments)

pub returns-clause-took : goal.returns-clause-took
returns-clause-took g c =
    let keeper = c.args.self.now in
    let tells = g.D.Disk.tells in
    let number : c.in-Some.number ≡ keeper.base + c.args.n = grind (arith, common_steps) in
    took_ask keeper.base keeper.room c.ask.new.self c.ask.new.out.text (tells c.args.disk.now) keeper.journal.at c.in-Some.number c.args.n c.args.request.now (tells c.add.new.disk) c.add.new.journal.at number
    (sym c.has_record-is_kept.ensures ∙ c.if-not-is_kept.false) (c.if-not-ask.ensures.asked refl) (c.if-not-ask.ensures.told refl) (c.in_ok-add.ensures.added, c.in_ok-add.ensures.moments)
