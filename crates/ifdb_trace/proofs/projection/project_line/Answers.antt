use Rattle.std.proofs.Common.{true, false, subst}
use Rattle.ifdb_model.specs.Script.{line_step, line_steps}
use Rattle.ifdb_trace.specs.Projected.{IsStepped}
use Rattle.ifdb_trace.proofs.Showing.{step_shown, step_cut, step_hidden}
use Rattle.ifdb_trace.proofs.projection.project_line.Goals as goal

pub returns-in_err-write_line-clause-write_cut : goal.returns-in_err-write_line-clause-write_cut
returns-in_err-write_line-clause-write_cut g c = λ _.
    let line = c.args.line.now in
    let stepped = subst (λ s. IsStepped c.args.level.now c.args.room.now c.take_step.new.room (line_step s) c.in_ok-take_step.field-0) c.step_line.ensures.step c.in_ok-take_step.ensures in
    let inside : IsStepped c.args.level.now c.args.room.now c.take_step.new.room (line_steps line) true =
    subst (IsStepped c.args.level.now c.args.room.now c.take_step.new.room (line_steps line)) c.if-branch.true stepped in
    step_cut c.args.level.now c.args.room.now c.take_step.new.room line _ _ c.requires inside c.in_err-write_line.ensures.err

pub returns-in_ok-write_line-clause-shown : goal.returns-in_ok-write_line-clause-shown
returns-in_ok-write_line-clause-shown g c =
    let line = c.args.line.now in
    let stepped = subst (λ s. IsStepped c.args.level.now c.args.room.now c.take_step.new.room (line_step s) c.in_ok-take_step.field-0) c.step_line.ensures.step c.in_ok-take_step.ensures in
    let inside : IsStepped c.args.level.now c.args.room.now c.take_step.new.room (line_steps line) true =
    subst (IsStepped c.args.level.now c.args.room.now c.take_step.new.room (line_steps line)) c.if-branch.true stepped in
    step_shown c.args.level.now c.args.room.now c.take_step.new.room line _ _ c.requires inside c.in_ok-write_line.ensures.ok

pub returns-else-branch-clause-shown : goal.returns-else-branch-clause-shown
returns-else-branch-clause-shown g c =
    let line = c.args.line.now in
    let stepped = subst (λ s. IsStepped c.args.level.now c.args.room.now c.take_step.new.room (line_step s) c.in_ok-take_step.field-0) c.step_line.ensures.step c.in_ok-take_step.ensures in
    let outside : IsStepped c.args.level.now c.args.room.now c.take_step.new.room (line_steps line) false =
    subst (IsStepped c.args.level.now c.args.room.now c.take_step.new.room (line_steps line)) c.if-branch.false stepped in
    step_hidden c.args.level.now c.args.room.now c.take_step.new.room line _ (g.W.Sink.written c.args.output.now) outside
