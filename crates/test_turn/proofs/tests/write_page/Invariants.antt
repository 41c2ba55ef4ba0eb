use Rattle.std.proofs.Common.{Some}
use Rattle.test_turn.proofs.tests.write_page.Given as goal

abbrev pub ghosts-finish : goal.ghosts-finish
ghosts-finish g a = record { entry = Some (record { book = a.book; opens = a.opens }) }
