-- decides: the program
-- What the words of the command line ask the program for.
use Rattle.std.specs.Prelude.{◌≡◌, ℕ, Bool, true, false, List, codes, String, Option, Some, None}
use Rattle.std.specs.declared.alloc.Global.{Global}
use Rattle.ifdb_words.specs.declared.command.Command.{Command}
use Rattle.ifdb_words.specs.declared.command.Command.TheVariants.{Run, Serve, Write}
use Rattle.ifdb_words.specs.declared.service.Service.{Service}
use Rattle.ifdb_words.specs.Words.{command_of}

-- the run of a script of at most so many bytes
abbrev pub IsRun : ℕ → List (String Global) → Type 0
IsRun limit words = command_of words ≡ Some (Run limit)

-- the service of connections
abbrev pub IsServe : Service → List (String Global) → Type 0
IsServe service words = command_of words ≡ Some (Serve service)

-- nothing that reads the input
abbrev pub NeedsNoInput : List (String Global) → Type 0
NeedsNoInput words = (limit : ℕ) → IsRun limit words → ⊥

-- nothing that asks the site for doors
abbrev pub NeedsNoSite : List (String Global) → Type 0
NeedsNoSite words = (service : Service) → IsServe service words → ⊥

-- nothing that the program does: the usage line is a text too
abbrev pub IsRefused : List (String Global) → Type 0
IsRefused words = command_of words ≡ None

-- a command that writes a text
abbrev pub writes_text : Option Command → Bool
writes_text None = true
writes_text (Some (Run limit)) = false
writes_text (Some (Serve service)) = false
writes_text (Some (Write text)) = true

-- a text
abbrev pub IsText : List (String Global) → Type 0
IsText words = writes_text (command_of words) ≡ true

-- what is written for words that ask for nothing
abbrev pub usage_line : List ℕ
usage_line = codes "usage: ifdb run [--limit N] | ifdb serve --port P [--workers W] [--links K] [--limit N] | ifdb generate [--run] N\n"
