use Rattle.std.proofs.Common.{length, Some}
use Rattle.ifdb_turn.specs.Passes.{history}
use Rattle.ifdb_turn.specs.Turns.{pass_of}
use Rattle.test_turn.proofs.tests.add_one.Given as goal

abbrev pub ghosts-done : goal.ghosts-done
ghosts-done g a = record { entry = Some (length (history (pass_of a.self))) }
