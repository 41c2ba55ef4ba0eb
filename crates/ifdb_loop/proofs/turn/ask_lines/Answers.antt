use Rattle.std.proofs.Common.{◌∙◌, refl}
use Rattle.ifdb_loop.proofs.turn.ask_lines.Goals as goal

pub loop-init : goal.loop-init
loop-init g c = record {
  ready = c.requires.ready;
  goes_on = g.met.S.Service.goes_itself _;
  opened = refl;
  stands = c.requires.stands;
  number = refl;
  others = λ _ _ _ says. says;
  port = refl;
  ending = refl;
  lost = refl;
}

pub loop-preserved : goal.loop-preserved
loop-preserved g c =
    let i = c.loop.invariant in
    let step = c.in_ok-ask-in-Line.ensures in
    record {
      ready = step.ready;
      goes_on = g.met.S.Service.goes_further _ _ _ i.goes_on step.goes_on;
      opened = step.opened ∙ i.opened;
      stands = step.stands;
      number = step.number ∙ i.number;
      others = λ other d apart says. step.others other d (λ e. apart (e ∙ i.number)) (i.others other d apart says);
      port = step.port ∙ i.port;
      ending = step.ending ∙ i.ending;
      lost = step.lost ∙ i.lost;
    }

pub returns-in_err-ask-in-Line-clause-goes_on : goal.returns-in_err-ask-in-Line-clause-goes_on
returns-in_err-ask-in-Line-clause-goes_on g c = g.met.S.Service.goes_further _ _ _ c.loop.invariant.goes_on c.ask.ensures.goes_on

pub returns-in_err-ask-in-Line-clause-others : goal.returns-in_err-ask-in-Line-clause-others
returns-in_err-ask-in-Line-clause-others g c =
    let i = c.loop.invariant in
    λ other d apart says. c.ask.ensures.others other d (λ e. apart (e ∙ i.number)) (i.others other d apart says)

pub returns-in-TooLong-clause-goes_on : goal.returns-in-TooLong-clause-goes_on
returns-in-TooLong-clause-goes_on g c = g.met.S.Service.goes_further _ _ _ c.loop.invariant.goes_on c.refuse_long.ensures.goes_on

pub returns-in-TooLong-clause-others : goal.returns-in-TooLong-clause-others
returns-in-TooLong-clause-others g c =
    let i = c.loop.invariant in
    λ other d apart says. c.refuse_long.ensures.others other d (λ e. apart (e ∙ i.number)) (i.others other d apart says)

pub returns-in-TooLong-clause-stands : goal.returns-in-TooLong-clause-stands
returns-in-TooLong-clause-stands g c = c.refuse_long.ensures.stands _ c.in-TooLong.ensures c.loop.invariant.stands
