use Rattle.std.proofs.Common.{take, map}
use Rattle.ifdb_model.specs.Run.{State}
use Rattle.ifdb_db.specs.Room.{StandsFor}
use Rattle.ifdb_closure.specs.Asking.{IsCall, Passed, label_of}
use Rattle.ifdb_closure.proofs.call.ask_lines.Given as goal

-- the lines so far passed
abbrev pub invariant-loop-line : goal.invariant-loop-line
invariant-loop-line l = record {
  call : IsCall l.room l.session l.caller;
  passed : (st : State) → StandsFor l.initial.room st → Passed l.room (label_of st l.caller) l.session st (map (λ x. x.now) (take l.line-index l.lines));
}
