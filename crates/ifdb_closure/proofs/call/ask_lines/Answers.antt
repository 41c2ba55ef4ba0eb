use Rattle.std.proofs.Common.{sym, subst, map, take, drop, ◌+◌, arith}
use Rattle.std.proofs.lemmas.List.{map_more}
use Rattle.std.proofs.lemmas.Result.{err_from_is_err_and}
use Rattle.ifdb_closure.specs.Asking.{Passed, label_of}
use Rattle.ifdb_closure.proofs.Asking.{front_passes, split_map, stopped_at}
use Rattle.ifdb_closure.proofs.call.ask_lines.Goals as goal

pub returns-in_err-ask_line-clause-stopped : goal.returns-in_err-ask_line-clause-stopped
returns-in_err-ask_line-clause-stopped c =
    let exit = err_from_is_err_and c.from_residual.result c.from_residual.ensures.1 in
    rw (exit.1, exit.2)
    (stopped_at c.args.room.now c.loop-line.room c.ask_line.new.room c.args.session c.args.caller c.requires
    (map (λ l. l.now) c.args.lines.now) (map (λ l. l.now) (take c.loop-line.line-index c.args.lines.now)) (map (λ l. l.now) (drop (c.loop-line.line-index + 1) c.args.lines.now)) _
    c.in_err-ask_line.field-0.0 (split_map (λ l. l.now) c.args.lines.now c.loop-line.line-index _ (omega (arith, c.loop-line-test.true)))
    c.loop-line.invariant.passed c.in_err-ask_line.ensures.stopped)

pub loop-line-preserved : goal.loop-line-preserved
loop-line-preserved c = record {
  call = c.in_ok-ask_line.ensures.called;
  passed = λ st w.
      subst (Passed c.ask_line.new.room (label_of st c.args.caller) c.args.session st)
      (sym (map_more (λ l. l.now) c.args.lines.now c.loop-line.line-index _ (omega (arith, c.loop-line-test.true))))
      (front_passes c.args.room.now c.loop-line.room c.ask_line.new.room c.args.session c.args.caller c.requires
      (map (λ l. l.now) (take c.loop-line.line-index c.args.lines.now)) c.loop-line.invariant.passed st w _ c.in_ok-ask_line.ensures.passed);
}
