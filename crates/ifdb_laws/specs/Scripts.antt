-- decides: two worlds
-- Two worlds for scripts, of which one was run and the other is any. For every reading of lines.
use Rattle.std.specs.Prelude.{◌≡◌, ℕ, Bool, true, List, not}
use Rattle.std.specs.List.{list_all}
use Rattle.ifdb_model.specs.Step.{Reader}
use Rattle.ifdb_model.specs.Run.{opening, Told}
use Rattle.ifdb_model.specs.Script.{steps_of}
use Rattle.ifdb_model.specs.Output.{reads_memory, refusals, told_of, texts}
use Rattle.ifdb_model.specs.Low.{heard, picked}
use Rattle.ifdb_laws.specs.TwoWorlds.{Agree}

-- no reply reads error 20
abbrev pub none_reads_memory : List Told → Bool
none_reads_memory told = list_all (λ (t : Told). not (reads_memory t.reply)) told

-- A script was told this. For each level, and each other script that agrees with it below the level, neither with a step
-- that crosses it, what is told inside is in bytes what the other script has those inside hear.
abbrev pub IsHeardAlike : Reader → List ℕ → List Told → Type 0
IsHeardAlike read input told = (level other : List ℕ) → Agree read level (steps_of input) (steps_of other)
    → texts (picked read level opening (steps_of input) told) ≡ texts (heard read level opening (steps_of other))

-- so it is of each script that was told all without want of memory
abbrev pub TwoScripts : Type 0
TwoScripts = (read : Reader) (input : List ℕ) (told : List Told) → told ≡ told_of read input (refusals told) → none_reads_memory told ≡ true
    → IsHeardAlike read input told
