use Rattle.std.proofs.Common.{◌≡◌, ◌+◌, ◌-◌, None, Some, length, take, refl, ap, ◌∙◌, arith, rules}
use Rattle.std.specs.Prelude.{vec_len}
use Rattle.std.proofs.lemmas.Grind.{common_steps}
use Rattle.ifdb_wire.specs.Text.{reply_text}
use Rattle.ifdb_wire.specs.declared.reply.Reply.TheVariants as reply
use Rattle.ifdb_closure.proofs.Turns.{opened_turned, unopened_turned, pushed, popped}
use Rattle.ifdb_closure.proofs.stage.Stage.open.Goals as goal

pub returns-then-not-open : goal.returns-then-not-open
returns-then-not-open c =
    let more = pushed c.args.self.now.seats.items c.push.new.self.items (record { session = c.in-Some.session; greeting = None }) c.push.result c.push.ensures.items c.if-is_err.ensures.value in
    let count : vec_len c.push.new.self ≡ length c.push.new.self.items = search rules in
    unopened_turned c.args.self.now (record c.args.self.now { room = c.open.new.self; seats = c.pop.new.self }) c.open.new.out.text refl
    (popped c.args.self.now.seats.items c.push.new.self.items c.pop.new.self.items (record { session = c.in-Some.session; greeting = None }) more (c.pop.ensures.rest ∙ ap (λ k. take (k - 1) c.push.new.self.items) count))
    (c.if-not-open.ensures.refused refl) (c.if-not-open.ensures.memory refl)

pub returns-else-not-open : goal.returns-else-not-open
returns-else-not-open c =
    let number : c.in-Some.session ≡ length c.args.self.now.room.clients + 1 = grind (arith, common_steps) in
    let more = pushed c.args.self.now.seats.items c.push.new.self.items (record { session = c.in-Some.session; greeting = None }) c.push.result c.push.ensures.items c.if-is_err.ensures.value in
    let count : vec_len c.push.new.self ≡ length c.push.new.self.items = search rules in
    opened_turned c.args.self.now (record c.args.self.now { room = c.open.new.self; seats = c.push.new.self }) c.in-Some.session c.open.new.out.text refl more
    number (c.if-not-open.ensures.opened refl) (c.if-not-open.ensures.told refl ∙ ap (λ k. reply_text (Some k) reply.Opened) (c.len-shown.ensures ∙ count))
