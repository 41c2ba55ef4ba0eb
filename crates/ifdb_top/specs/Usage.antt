-- decides: the program
-- What is written for words that begin with a command and aren't well formed.
use Rattle.std.specs.Prelude.{◌≡◌, ℕ, List}
use Rattle.ifdb_io.specs.Causes.{Rose}
use Rattle.ifdb_io.specs.declared.outside.Sink as sink
use Rattle.ifdb_top.specs.declared.base.Status.TheVariants as status
use Rattle.ifdb_top.specs.declared.more.MoreStatus.{MoreStatus}
use Rattle.ifdb_top.specs.declared.more.MoreStatus.TheVariants.{Base}
use Rattle.ifdb_top.specs.More.{OnBase}
use Rattle.ifdb_top.specs.Status.{IsUsage}
use Rattle.ifdb_top.specs.Texts.{IsWritten}

module _ {O : Type 0} (outputs : sink.Ghosts O) where
  -- the usage line was to be written, or there was no memory to read the words
  pub record WritesUsage (line : List ℕ) (output output' : O) (end : MoreStatus) : Type 0 where
    pub ends : OnBase end IsUsage
    pub written : OnBase end (λ s. IsWritten line s (outputs.written output) (outputs.written output'))
    pub write : end ≡ Base status.WriteFault → Rose (outputs.faults output) (outputs.faults output')

  -- so it was, and the input is as it was
  pub record TellsUsage {I : Type 0} (line : List ℕ) (input input' : I) (output output' : O) (end : MoreStatus) : Type 0 where
    pub usage : WritesUsage line output output' end
    pub input_is : input' ≡ input
