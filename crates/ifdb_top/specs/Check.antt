-- decides: the program
-- What the program does by the words of `check`.
use Rattle.std.specs.Prelude.{◌≡◌, ◌≢◌, ◌⊎◌, ℕ, List, codes, Option, Some, None}
use Rattle.std.specs.Io.KnownBytes.{Appends}
use Rattle.ifdb_io.specs.Causes.{Rose, WritesShort}
use Rattle.ifdb_io.specs.declared.outside.Source as source
use Rattle.ifdb_io.specs.declared.outside.Sink as sink
use Rattle.ifdb_service.specs.Summary.{numbered_line}
use Rattle.ifdb_trace.specs.Checked.{CheckedWhole, CheckedWrong, CheckedPast}
use Rattle.ifdb_words.specs.Limit.{limit_in}
use Rattle.ifdb_top.specs.declared.base.Status.TheVariants as status
use Rattle.ifdb_top.specs.declared.more.MoreStatus.{MoreStatus}
use Rattle.ifdb_top.specs.declared.more.MoreStatus.TheVariants.{Base, TraceRefused}
use Rattle.ifdb_top.specs.Usage.{TellsUsage}

-- what is written of an accepted trace, of one whose first wrong line is this, and for words that aren't well formed
abbrev pub accepted_line : List ℕ
accepted_line = codes "ACCEPTED\n"

abbrev pub refused_line : ℕ → List ℕ
refused_line k = numbered_line (codes "REFUSED") k

abbrev pub check_usage : List ℕ
check_usage = codes "usage: ifdb check [--limit N]\n"

-- the line says what was found of the bytes that were taken
abbrev pub IsVerdict : ℕ → Option (List ℕ) → Option (List ℕ) → List ℕ → Type 0
IsVerdict limit left_old left_new line =
    (CheckedWhole limit left_old left_new × (line ≡ accepted_line))
    ⊎ ((k : ℕ) × CheckedWrong limit left_old left_new k × (line ≡ refused_line k))

-- a trace was checked, or there was no memory
abbrev pub IsCheckEnd : MoreStatus → Type 0
IsCheckEnd (Base status.Done) = Unit {0}
IsCheckEnd (Base status.ReadFault) = Unit {0}
IsCheckEnd (Base status.WriteFault) = Unit {0}
IsCheckEnd (Base status.OutOfMemory) = Unit {0}
IsCheckEnd (Base status.TooLarge) = Unit {0}
IsCheckEnd TraceRefused = Unit {0}
IsCheckEnd _ = ⊥

-- the same where nothing had a fault and the trace keeps to its limit
abbrev pub IsChecked : MoreStatus → Type 0
IsChecked (Base status.Done) = Unit {0}
IsChecked (Base status.OutOfMemory) = Unit {0}
IsChecked TraceRefused = Unit {0}
IsChecked _ = ⊥

module _ {I O : Type 0} (inputs : source.Ghosts I) (outputs : sink.Ghosts O) where
  -- the check of a trace, with this limit
  pub record ChecksTrace (limit : ℕ) (input input' : I) (output output' : O) (end : MoreStatus) : Type 0 where
    pub accepted : end ≡ Base status.Done → CheckedWhole limit (inputs.left input) (inputs.left input')
        × Appends (outputs.written output) (outputs.written output') accepted_line
    pub refused : end ≡ TraceRefused → (k : ℕ) × CheckedWrong limit (inputs.left input) (inputs.left input') k
        × Appends (outputs.written output) (outputs.written output') (refused_line k)
    pub read : end ≡ Base status.ReadFault → Rose (inputs.faults input) (inputs.faults input')
    pub write : end ≡ Base status.WriteFault → Rose (outputs.faults output) (outputs.faults output')
    pub write_front : end ≡ Base status.WriteFault → (line : List ℕ) × IsVerdict limit (inputs.left input) (inputs.left input') line
        × WritesShort (outputs.written output) (outputs.written output') line
    pub too_large : end ≡ Base status.TooLarge → CheckedPast limit (inputs.left input) (inputs.left input')
    pub nothing : end ≢ Base status.Done → end ≢ TraceRefused → end ≢ Base status.WriteFault → output' ≡ output
    pub unfailed : end ≢ Base status.ReadFault → inputs.faults input' ≡ inputs.faults input
    pub ends : IsCheckEnd end
    pub complete : ¬ Rose (inputs.faults input) (inputs.faults input') → ¬ Rose (outputs.faults output) (outputs.faults output')
        → end ≢ Base status.TooLarge → IsChecked end

  -- the words behind `check`
  pub record DoesCheck (words : List (List ℕ)) (input input' : I) (output output' : O) (end : MoreStatus) : Type 0 where
    pub well_formed : (limit : ℕ) → limit_in words ≡ Some limit → ChecksTrace limit input input' output output' end
    pub malformed : limit_in words ≡ None → TellsUsage outputs check_usage input input' output output' end
