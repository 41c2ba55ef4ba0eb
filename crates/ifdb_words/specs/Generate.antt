-- decides: the command line
-- The words behind `generate`.
use Rattle.std.specs.Prelude.{ℕ, Bool, List, [], ◌∷◌, Option, Some, None, codes, option_and_then, if◌then◌else◌}
use Rattle.std.specs.Str.{bytes_eq}
use Rattle.ifdb_generate.specs.Script.{sized}
use Rattle.ifdb_words.specs.Numbers.{number_of}
use Rattle.ifdb_words.specs.declared.command.Command.{Command}
use Rattle.ifdb_words.specs.declared.command.Command.TheVariants.{Write}
use Rattle.ifdb_words.specs.declared.command.Text.TheVariants.{Script, Counts}

-- the generator's number of INSERTs
abbrev pub size_of : List ℕ → Option ℕ
size_of word = option_and_then sized (number_of word)

-- the script with so many, where the number is one
abbrev pub script_for : Option ℕ → Option Command
script_for None = None
script_for (Some n) = Some (Write (Script n))

-- what the run of that script counts
abbrev pub counts_for : Option ℕ → Option Command
counts_for None = None
counts_for (Some n) = Some (Write (Counts n))

-- the flag that has the generator's script run
abbrev pub is_flag : List ℕ → Bool
is_flag word = bytes_eq word (codes "--run")

-- a number, and the flag before or behind it
abbrev pub generation_in : List (List ℕ) → Option Command
generation_in [] = None
generation_in (word ∷ []) = script_for (size_of word)
generation_in (word ∷ other ∷ []) =
    if is_flag word then counts_for (size_of other) else (if is_flag other then counts_for (size_of word) else None)
generation_in (word ∷ other ∷ third ∷ words) = None
