use Rattle.std.proofs.Common.{Some}
use Rattle.ifdb_turn.specs.Passes.{history}
use Rattle.ifdb_turn.specs.Turns.{pass_of}
use Rattle.test_durable.specs.Tally.{entry_of}
use Rattle.test_durable.proofs.shop.Shop.add.Given as goal

abbrev pub ghosts-done_entry : goal.ghosts-done_entry
ghosts-done_entry g a = record { entry = Some (entry_of (history (pass_of a.turn)) a.amount a.is_look) }
