-- decides: the program
-- What is written for words that ask for a text.
use Rattle.std.specs.Prelude.{◌≡◌, ℕ, List, [], Option, Some, None}
use Rattle.std.specs.Io.KnownBytes.{Appends}
use Rattle.ifdb_generate.specs.Script.{script}
use Rattle.ifdb_io.specs.Causes.{WritesShort}
use Rattle.ifdb_script.specs.Rehearsal.{rehearsed, rehearsed_text}
use Rattle.ifdb_top.specs.declared.base.Status.{Status}
use Rattle.ifdb_top.specs.declared.base.Status.TheVariants as status
use Rattle.ifdb_words.specs.declared.command.Command.{Command}
use Rattle.ifdb_words.specs.declared.command.Command.TheVariants.{Run, Serve, Write}
use Rattle.ifdb_words.specs.declared.command.Text.{Text}
use Rattle.ifdb_words.specs.declared.command.Text.TheVariants.{Script, Counts}
use Rattle.ifdb_top.specs.Words.{usage_line}

-- the generator's script, or what its run counts
abbrev pub text_of : Text → List ℕ
text_of (Script n) = script n
text_of (Counts n) = rehearsed_text (rehearsed (script n))

-- the text that is asked for; the usage line where the words ask for nothing
abbrev pub text_for : Option Command → List ℕ
text_for None = usage_line
text_for (Some (Run limit)) = []
text_for (Some (Serve service)) = []
text_for (Some (Write text)) = text_of text

-- it was written whole, or a front of it where the output failed; where there was no memory nothing was
abbrev pub IsWritten : List ℕ → Status → Option (List ℕ) → Option (List ℕ) → Type 0
IsWritten text status.Done old new = Appends old new text
IsWritten text status.Usage old new = Appends old new text
IsWritten text status.WriteFault old new = WritesShort old new text
IsWritten text status.OutOfMemory old new = new ≡ old
IsWritten text status.ReadFault old new = ⊥
IsWritten text status.TooLarge old new = ⊥
IsWritten text status.SiteFault old new = ⊥
