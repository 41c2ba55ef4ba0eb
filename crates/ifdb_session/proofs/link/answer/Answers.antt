use Rattle.std.proofs.Common.{rules, subst}
use Rattle.ifdb_turn.specs.Passes.{history}
use Rattle.ifdb_session.specs.Passes.{Asks}
use Rattle.ifdb_session.proofs.Settled.{asks_settled, sources_settled}
use Rattle.ifdb_session.proofs.Sources.{kept_more, kept_but_last}
use Rattle.ifdb_session.proofs.link.answer.Goals as goal

pub returns-in-Err-clause-asks : goal.returns-in-Err-clause-asks
returns-in-Err-clause-asks g c =
    let e = c.settle_if.ensures in
    subst (λ l. Asks g.Q.Records.first c.args.hall.now l c.ask-is_open.new.out.text c.args.pass.now c.settle_if.new.pass c.args.seat.now c.ask-is_open.new.seat c.ask-is_open.result.is_open) c.text.ensures
    (asks_settled g.Q.Records.first c.args.hall.now c.args.pass.now c.ask-is_open.new.pass c.settle_if.new.pass e.sees e.places e.away c.text.result.now c.ask-is_open.new.out.text c.args.seat.now c.ask-is_open.new.seat _ c.ask-is_open.ensures.asks)

pub returns-in-Err-clause-unkept : goal.returns-in-Err-clause-unkept
returns-in-Err-clause-unkept g c = λ _ all.
    let e = c.settle_if.ensures in
    let same = sources_settled g.Q.Records.first c.args.hall.now c.args.pass.now c.ask-is_open.new.pass c.settle_if.new.pass e.sees e.places e.away c.text.result.now c.ask-is_open.new.out.text c.args.seat.now c.ask-is_open.new.seat _ c.ask-is_open.ensures.asks in
    kept_but_last g.Q.Records g.S.Settles g.met.S.Settles.stays_kept c.args.seat.now.number (history c.args.pass.now) (history c.ask-is_open.new.pass) (history c.settle_if.new.pass) c.ask-is_open.result.count
    c.args.keeper.now c.settle_if.new.keeper e.keeper.1 c.ask-is_open.ensures.sourced same (search rules) all

pub returns-clause-asks : goal.returns-clause-asks
returns-clause-asks g c =
    let e = c.settle_if.ensures in
    subst (λ l. Asks g.Q.Records.first c.args.hall.now l c.ask-is_open.new.out.text c.args.pass.now c.settle_if.new.pass c.args.seat.now c.ask-is_open.new.seat c.ask-is_open.result.is_open) c.text.ensures
    (asks_settled g.Q.Records.first c.args.hall.now c.args.pass.now c.ask-is_open.new.pass c.settle_if.new.pass e.sees e.places e.away c.text.result.now c.ask-is_open.new.out.text c.args.seat.now c.ask-is_open.new.seat _ c.ask-is_open.ensures.asks)

pub returns-clause-kept : goal.returns-clause-kept
returns-clause-kept g c = λ _ all.
    let e = c.settle_if.ensures in
    let same = sources_settled g.Q.Records.first c.args.hall.now c.args.pass.now c.ask-is_open.new.pass c.settle_if.new.pass e.sees e.places e.away c.text.result.now c.ask-is_open.new.out.text c.args.seat.now c.ask-is_open.new.seat _ c.ask-is_open.ensures.asks in
    kept_more g.Q.Records g.S.Settles g.met.S.Settles.stays_kept c.args.seat.now.number (history c.args.pass.now) (history c.ask-is_open.new.pass) (history c.settle_if.new.pass) c.ask-is_open.result.count
    c.args.keeper.now c.settle_if.new.keeper e.keeper.1 c.ask-is_open.ensures.sourced same (search rules) all
