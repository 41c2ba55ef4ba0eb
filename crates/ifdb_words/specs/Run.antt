-- decides: the command line
-- The words behind `run`.
use Rattle.std.specs.Prelude.{ℕ, List, Option, option_map}
use Rattle.ifdb_words.specs.Limit.{limit_in}
use Rattle.ifdb_words.specs.declared.command.Command.{Command}
use Rattle.ifdb_words.specs.declared.command.Command.TheVariants.{Run}

abbrev pub run_in : List (List ℕ) → Option Command
run_in words = option_map Run (limit_in words)
