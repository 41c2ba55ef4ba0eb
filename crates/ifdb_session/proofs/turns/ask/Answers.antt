use Rattle.std.proofs.Common.{inl, subst}
use Rattle.ifdb_turn.specs.Passes.{history, places}
use Rattle.ifdb_session.specs.Seats.{work_of, IsAskedAlone}
use Rattle.ifdb_session.proofs.Apart.{alone_itself}
use Rattle.ifdb_session.proofs.Turned.{alone_asked, no_turn, turn_for_room}
use Rattle.ifdb_session.proofs.Working.{lent_if}
use Rattle.ifdb_session.proofs.turns.ask.Goals as goal

pub ask-requires : goal.ask-requires
ask-requires g c = record { lent = lent_if g.Q.Records.first (history c.args.pass.now) c.args.seat.now.number (work_of c.args.seat.now) c.args.seat.now.lent c.requires.seated.works }

pub returns-then-ask-clause-asks : goal.returns-then-ask-clause-asks
returns-then-ask-clause-asks g c =
    let noted = subst (IsAskedAlone c.args.line.now c.args.seat.now c.ask.new.self c.ask.new.out.text) c.if-ask.true c.ask.ensures in
    alone_asked g.Q.Records.first c.args.hall.now c.args.pass.now c.args.seat.now c.ask.new.self c.args.line.now c.ask.new.out.text c.requires.pass c.requires.orderly c.requires.seated noted

pub returns-then-ask-clause-alone : goal.returns-then-ask-clause-alone
returns-then-ask-clause-alone g c = no_turn c.args.line.now c.args.seat.now.lent c.args.pass.now

pub returns-clause-alone : goal.returns-clause-alone
returns-clause-alone g c =
    let left = subst (IsAskedAlone c.args.line.now c.args.seat.now c.ask.new.self c.ask.new.out.text) c.if-ask.false c.ask.ensures in
    turn_for_room c.args.line.now c.args.seat.now.lent c.args.pass.now c.ask_in_turn.new.pass left.1

pub returns-then-ask-clause-others : goal.returns-then-ask-clause-others
returns-then-ask-clause-others g c = λ m other holds. alone_itself g.Q.Records.first (history c.args.pass.now) (places c.args.pass.now) m holds

pub returns-then-ask-clause-behind : goal.returns-then-ask-clause-behind
returns-then-ask-clause-behind g c = record { each = λ before e front so. inl front }
