use Rattle.std.proofs.Common.{◌∙◌, sym, ap, subst}
use Rattle.std.proofs.lemmas.Result.{err_from_is_err_and}
use Rattle.ifdb_db.specs.Room.{Hall, StandsFor}
use Rattle.ifdb_closure.specs.Closures.{is_refusal}
use Rattle.ifdb_closure.specs.Asking.{lacked, was_refused}
use Rattle.ifdb_closure.proofs.Asking.{call_goes_on, line_passes, line_outside, not_refused}
use Rattle.ifdb_closure.proofs.call.ask_line.Goals as goal

pub returns-in_err-reply-clause-stopped : goal.returns-in_err-reply-clause-stopped
returns-in_err-reply-clause-stopped c =
    let exit = err_from_is_err_and c.from_residual.result c.from_residual.ensures.1 in
    rw (exit.1, exit.2) (λ st w. lacked (subst (λ (room : Hall). StandsFor room st) (sym c.in_err-reply.ensures.err) w))

pub returns-in-Refused-clause-stopped : goal.returns-in-Refused-clause-stopped
returns-in-Refused-clause-stopped c = λ st w.
    was_refused c.in-Refused.fault (c.in_ok-reply.ensures.asked st w) (sym (c.in_ok-reply.ensures.told st w) ∙ c.in-Refused.is)

pub flows-requires : goal.flows-requires
flows-requires c =
    let call = call_goes_on c.args.room.now c.reply.new.self c.args.session c.args.caller c.args.line.now c.requires c.in_ok-reply.ensures.asked in
    record { from = call.session_there; to = call.caller_there }

pub returns-then-not-flows : goal.returns-then-not-flows
returns-then-not-flows c = record {
  called = tt;
  passed = tt;
  told = tt;
  still = tt;
  stopped = λ st w.
      let fine = ap is_refusal (sym (c.in_ok-reply.ensures.told st w)) ∙ not_refused c.in_ok-reply.reply c.in_default.not-Refused in
      line_outside c.args.room.now c.reply.new.self c.args.session c.args.caller c.args.line.now c.requires c.in_ok-reply.ensures.asked st w fine (sym c.if-not-flows.ensures);
}

pub returns : goal.returns
returns c = record {
  called = call_goes_on c.args.room.now c.reply.new.self c.args.session c.args.caller c.args.line.now c.requires c.in_ok-reply.ensures.asked;
  passed = λ st w.
      let fine = ap is_refusal (sym (c.in_ok-reply.ensures.told st w)) ∙ not_refused c.in_ok-reply.reply c.in_default.not-Refused in
      line_passes c.args.room.now c.reply.new.self c.args.session c.args.caller c.args.line.now c.requires c.in_ok-reply.ensures.asked st w fine (sym c.if-not-flows.ensures);
  told = c.in_ok-reply.ensures.told;
  still = c.in_ok-reply.ensures.still;
  stopped = tt;
}
