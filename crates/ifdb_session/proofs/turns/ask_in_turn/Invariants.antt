use Rattle.std.proofs.Common.{Some}
use Rattle.ifdb_turn.specs.Passes.{history}
use Rattle.ifdb_turn.specs.Turns.{pass_of}
use Rattle.ifdb_history.specs.declared.entry.Kind.TheVariants as kind
use Rattle.ifdb_history.specs.History.{entry_of}
use Rattle.ifdb_session.specs.Seats.{asked_entry}
use Rattle.ifdb_session.proofs.turns.ask_in_turn.Given as goal

abbrev pub ghosts-done_asked : goal.ghosts-done_asked
ghosts-done_asked g a = record { entry = Some (asked_entry (history (pass_of a.turn)) a.n a.work.now.notes a.line.now) }

abbrev pub ghosts-done_refused : goal.ghosts-done_refused
ghosts-done_refused g a = record { entry = Some (entry_of (history (pass_of a.turn)) a.n (kind.Refused a.n a.line.now)) }

abbrev pub ghosts-done_looked : goal.ghosts-done_looked
ghosts-done_looked g a = record { entry = Some (entry_of (history (pass_of a.turn)) a.n (kind.Looked a.n a.line.now)) }
