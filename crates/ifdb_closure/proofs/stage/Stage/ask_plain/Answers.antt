use Rattle.std.proofs.Common.{◌∙◌, sym, refl}
use Rattle.std.specs.Prelude.{option_map}
use Rattle.ifdb_closure.proofs.Turns.{known_does, some_map}
use Rattle.ifdb_closure.proofs.stage.Stage.ask_plain.Goals as goal

pub returns-then-is_some : goal.returns-then-is_some
returns-then-is_some c =
    let asked = rw c.session-session.ensures at c.ask.ensures.asked in
    let told = rw c.session-session.ensures at c.ask.ensures.told in
    known_does c.args.self.now (record c.args.self.now { room = c.ask.new.self }) c.args.n c.args.line.now c.ask.new.out.text c.ask.result c.requires.form refl refl
    asked told c.ask.ensures.refused c.ask.ensures.memory (option_map (λ g. g.now) c.greeting.result) c.greeting.ensures
    (some_map (λ g. g.now) c.greeting.result ∙ sym c.if-is_some.ensures)
