use Rattle.std.proofs.Common.{Some}
use Rattle.bench_turn.proofs.entries.add.Given as goal

abbrev pub ghosts-finish : goal.ghosts-finish
ghosts-finish g a = record { entry = Some a.root }
