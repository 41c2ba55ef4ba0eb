-- decides: the command line
-- The words of the command line.
use Rattle.std.specs.Prelude.{ℕ, List, [], ◌∷◌, map, codes, string_bytes, String, Option, None, if◌then◌else◌}
use Rattle.std.specs.Str.{bytes_eq}
use Rattle.std.specs.declared.alloc.Global.{Global}
use Rattle.ifdb_words.specs.Run.{run_in}
use Rattle.ifdb_words.specs.Serve.{serve_in}
use Rattle.ifdb_words.specs.Generate.{generation_in}
use Rattle.ifdb_words.specs.declared.command.Command.{Command}

-- what the words ask for, where they are well formed
abbrev pub command_in : List (List ℕ) → Option Command
command_in [] = None
command_in (word ∷ words) =
    if bytes_eq word (codes "run") then run_in words
    else (if bytes_eq word (codes "serve") then serve_in words
    else (if bytes_eq word (codes "generate") then generation_in words else None))

abbrev pub command_of : List (String Global) → Option Command
command_of words = command_in (map string_bytes words)
