use Rattle.std.proofs.Common.{◌∷◌, [], map}
use Rattle.std.proofs.lemmas.Result.{err_from_is_err_and}
use Rattle.ifdb_closure.proofs.Asking.{front_stops, ended_stopped, ended_last, committed_all}
use Rattle.ifdb_closure.proofs.call.ask_all.Goals as goal

pub returns-in_err-ask_lines : goal.returns-in_err-ask_lines
returns-in_err-ask_lines c = λ st w.
    let exit = err_from_is_err_and c.from_residual.result c.from_residual.ensures.1 in
    let stopped = rw c.deref.ensures.value at c.in_err-ask_lines.ensures.stopped in
    rw (exit.1, exit.2)
    (ended_stopped c.ask_lines.new.room _ c.args.session st c.args.shown c.args.out.now.text _ (c.args.lines.now.last.now ∷ []) c.in_err-ask_lines.field-0.0 (stopped st w))

pub returns-in_err-ask_last : goal.returns-in_err-ask_last
returns-in_err-ask_last c = λ st w.
    let exit = err_from_is_err_and c.from_residual-in_err-ask_last.result c.from_residual-in_err-ask_last.ensures.1 in
    let passed = rw c.deref.ensures.value at c.in_ok-ask_lines.ensures.passed in
    let both = front_stops c.args.room.now c.ask_lines.new.room c.ask_last.new.room c.args.session c.args.caller c.requires
    (map (λ l. l.now) c.args.lines.now.front.items) passed st w c.args.lines.now.last.now c.in_err-ask_last.field-0.0 c.in_err-ask_last.ensures.stopped in
    rw (exit.1, exit.2)
    (ended_last c.ask_last.new.room _ c.args.session st c.args.shown c.ask_last.new.out.text (map (λ l. l.now) c.args.lines.now.front.items) c.args.lines.now.last.now
    c.in_err-ask_last.field-0.0 both.0 both.1)

pub returns : goal.returns
returns c =
    let passed = rw c.deref.ensures.value at c.in_ok-ask_lines.ensures.passed in
    committed_all c.args.room.now c.ask_lines.new.room c.ask_last.new.room c.commit.new.room c.args.session c.args.caller c.requires
    (map (λ l. l.now) c.args.lines.now.front.items) c.args.lines.now.last.now c.args.shown c.ask_last.new.out.text c.commit.result
    passed c.in_ok-ask_last.ensures.passed c.in_ok-ask_last.ensures.told c.commit.ensures.committed c.commit.ensures.refused
