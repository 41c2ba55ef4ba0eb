use Rattle.std.proofs.Common.{Some}
use Rattle.bench_turn.proofs.entries.open_root.Given as goal

abbrev pub ghosts-finish : goal.ghosts-finish
ghosts-finish g a = record { entry = Some a.root }
