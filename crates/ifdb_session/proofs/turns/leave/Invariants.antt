use Rattle.std.proofs.Common.{Some}
use Rattle.ifdb_turn.specs.Passes.{history}
use Rattle.ifdb_turn.specs.Turns.{pass_of}
use Rattle.ifdb_session.specs.Seats.{left_entry}
use Rattle.ifdb_session.proofs.turns.leave.Given as goal

abbrev pub ghosts-done_left : goal.ghosts-done_left
ghosts-done_left g a = record { entry = Some (left_entry (history (pass_of a.turn)) a.n a.work.now.notes) }
