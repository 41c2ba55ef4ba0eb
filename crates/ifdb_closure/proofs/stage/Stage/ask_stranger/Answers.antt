use Rattle.std.proofs.Common.{◌≡◌, ◌-◌, sym, refl, set}
use Rattle.std.specs.Vec.{with_item}
use Rattle.ifdb_closure.specs.Standing.{seat_at}
use Rattle.ifdb_closure.proofs.Turns.{stranger_does, greeted_does, new_place, seat_there}
use Rattle.ifdb_closure.proofs.stage.Stage.ask_stranger.Goals as goal

pub returns-then-has_principal : goal.returns-then-has_principal
returns-then-has_principal c =
    let asked = rw c.session-session.ensures at c.ask.ensures.asked in
    let told = rw c.session-session.ensures at c.ask.ensures.told in
    let named = rw c.session-session.ensures at c.if-has_principal.ensures in
    let place = new_place c.args.self.now c.ask.new.self c.args.n c.args.line.now c.ask.new.out.text c.ask.result asked c.ask.ensures.refused c.requires.stranger (sym named) c.requires.set.0 c.requires.set.1 in
    let same : c.index_mut.result.now ≡ seat_at c.args.self.now.seats.items c.args.n =
    seat_there c.args.self.now.seats.items c.args.n c.index_mut.result.now place c.index_mut.ensures.value in
    greeted_does c.args.self.now c.ask.new.self c.args.n c.args.line.now c.ask.new.out.text c.ask.result asked c.ask.ensures.refused c.requires.stranger (sym named)
    (record c.args.self.now { room = c.ask.new.self; seats = with_item c.args.self.now.seats (c.args.n - 1) (record { session = c.index_mut.result.now.session; greeting = c.in-Ok.greeting }) })
    refl c.requires.form refl (λ i. set c.args.self.now.seats.items (c.args.n - 1) (record { session = (same i).session; greeting = c.in-Ok.ensures i })) told

pub returns-else-has_principal : goal.returns-else-has_principal
returns-else-has_principal c =
    let asked = rw c.session-session.ensures at c.ask.ensures.asked in
    let told = rw c.session-session.ensures at c.ask.ensures.told in
    let named = rw c.session-session.ensures at c.if-has_principal.ensures in
    stranger_does c.args.self.now (record c.args.self.now { room = c.ask.new.self }) c.args.n c.args.line.now c.ask.new.out.text c.ask.result c.requires.form refl refl
    asked told c.ask.ensures.refused c.ask.ensures.memory c.requires.stranger (sym named)
