use Rattle.std.proofs.Common.{◌∙◌, ◌++◌, ◌∷◌, [], sym, ap, refl, map, Some}
use Rattle.std.proofs.lemmas.Result.{err_from_is_err_and}
use Rattle.ifdb_closure.proofs.Seats.{label_made}
use Rattle.ifdb_closure.proofs.Turns.{lacking_turned, caller_there, call_made}
use Rattle.ifdb_closure.proofs.stage.Stage.try_call.Goals as goal

pub label_line-requires : goal.label_line-requires
label_line-requires c = record {
  made = rw c.session-caller.ensures (label_made c.args.self.now.room c.args.self.now.seats.items c.args.self.now.closures c.requires.0 c.requires.1 c.args.n);
}

pub returns-in_err-label : goal.returns-in_err-label
returns-in_err-label c = λ line form w s.
    let exit = err_from_is_err_and c.from_residual-in_err-label.result c.from_residual-in_err-label.ensures.1 in
    rw (exit.1, exit.2) (lacking_turned c.args.self.now w c.args.n line s)

pub returns-in_err-lines : goal.returns-in_err-lines
returns-in_err-lines c = λ line form w s.
    let exit = err_from_is_err_and c.from_residual-in_err-lines.result c.from_residual-in_err-lines.ensures.1 in
    rw (exit.1, exit.2) (lacking_turned c.args.self.now w c.args.n line s)

pub run_call-requires-clause-caller : goal.run_call-requires-clause-caller
run_call-requires-clause-caller c =
    rw c.session-caller.ensures (caller_there c.args.self.now c.requires.0 c.requires.1 c.args.n (c.in_ok-asker.ensures.may c.requires.0 c.requires.1).0)

pub returns : goal.returns
returns c = λ line form w s.
    let found = rw c.items.ensures at c.in-Some.ensures in
    let second = rw c.session-caller.ensures at c.in_ok-label.ensures in
    let lines = rw (c.deref.ensures.value, c.deref-2.ensures.value, c.items-2.ensures) at c.in_ok-lines.ensures in
    let ran = rw c.session-caller.ensures at c.run_call.ensures w.state s.room in
    call_made c.args.self.now (record c.args.self.now { room = c.run_call.new.room }) c.args.n line c.args.name.now c.in_ok-hello.hello.items c.in_ok-label.label.items
    (map (λ l. l.now) c.in_ok-lines.lines.front.items ++ c.in_ok-lines.lines.last.now ∷ []) c.run_call.new.out.text c.run_call.result
    (record { name = c.closure.inside.name; owner = c.closure.inside.owner; statements = c.closure.inside.statements })
    refl refl form w s (c.in_ok-asker.ensures.may w s).0 (sym found ∙ ap Some (sym c.closure.view_is)) c.in_ok-hello.ensures second lines ran
