use Rattle.std.proofs.Common.{Some}
use Rattle.ifdb_turn.specs.Passes.{history}
use Rattle.ifdb_turn.specs.Turns.{pass_of}
use Rattle.ifdb_history.specs.History.{opening_entry}
use Rattle.ifdb_session.proofs.turns.open.Given as goal

abbrev pub ghosts-done_opened : goal.ghosts-done_opened
ghosts-done_opened g a = record { entry = Some (opening_entry (history (pass_of a.turn))) }
