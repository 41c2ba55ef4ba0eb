-- decides: the program
-- What the program does by the words of `closures`.
use Rattle.std.specs.Prelude.{◌≡◌, ◌≢◌, ℕ, List, codes, Some, None}
use Rattle.ifdb_io.specs.Causes.{Rose}
use Rattle.ifdb_io.specs.declared.outside.Source as source
use Rattle.ifdb_io.specs.declared.outside.Sink as sink
use Rattle.ifdb_closure.specs.Ran.{RanWhole, RanFront, RanPast, RanCut, IsToldByBytes, IsFramedRun, KeepsLevels}
use Rattle.ifdb_words.specs.Limit.{limit_in}
use Rattle.ifdb_top.specs.declared.base.Status.TheVariants as status
use Rattle.ifdb_top.specs.declared.more.MoreStatus.{MoreStatus}
use Rattle.ifdb_top.specs.declared.more.MoreStatus.TheVariants.{Base}
use Rattle.ifdb_top.specs.Usage.{TellsUsage}

abbrev pub closures_usage : List ℕ
closures_usage = codes "usage: ifdb closures [--limit N]\n"

-- a script was run, or there was no memory
abbrev pub IsClosuresEnd : MoreStatus → Type 0
IsClosuresEnd (Base status.Done) = Unit {0}
IsClosuresEnd (Base status.ReadFault) = Unit {0}
IsClosuresEnd (Base status.WriteFault) = Unit {0}
IsClosuresEnd (Base status.OutOfMemory) = Unit {0}
IsClosuresEnd (Base status.TooLarge) = Unit {0}
IsClosuresEnd _ = ⊥

-- the same where nothing had a fault and the script keeps to its limit
abbrev pub IsRunOrLacking : MoreStatus → Type 0
IsRunOrLacking (Base status.Done) = Unit {0}
IsRunOrLacking (Base status.OutOfMemory) = Unit {0}
IsRunOrLacking _ = ⊥

module _ {I O : Type 0} (inputs : source.Ghosts I) (outputs : sink.Ghosts O) where
  -- the run of a script with closures, with this limit
  pub record RunsClosures (limit : ℕ) (input input' : I) (output output' : O) (end : MoreStatus) : Type 0 where
    pub done : end ≡ Base status.Done → RanWhole limit (inputs.left input) (inputs.left input') (outputs.written output) (outputs.written output')
    pub told_by_bytes : end ≡ Base status.Done
        → IsToldByBytes limit (inputs.left input) (inputs.left input') (outputs.written output) (outputs.written output')
    pub framed : end ≡ Base status.Done
        → IsFramedRun limit (inputs.left input) (inputs.left input') (outputs.written output) (outputs.written output')
    pub two_worlds : end ≡ Base status.Done
        → KeepsLevels limit (inputs.left input) (inputs.left input') (outputs.written output) (outputs.written output')
    pub read : end ≡ Base status.ReadFault → Rose (inputs.faults input) (inputs.faults input')
    pub read_front : end ≡ Base status.ReadFault
        → RanFront limit (inputs.left input) (inputs.left input') (outputs.written output) (outputs.written output')
    pub write : end ≡ Base status.WriteFault → Rose (outputs.faults output) (outputs.faults output')
    pub write_front : end ≡ Base status.WriteFault
        → RanCut limit (inputs.left input) (inputs.left input') (outputs.written output) (outputs.written output')
    pub too_large : end ≡ Base status.TooLarge
        → RanPast limit (inputs.left input) (inputs.left input') (outputs.written output) (outputs.written output')
    pub memory : end ≡ Base status.OutOfMemory → (input' ≡ input) × (output' ≡ output)
    pub unfailed : end ≢ Base status.ReadFault → inputs.faults input' ≡ inputs.faults input
    pub ends : IsClosuresEnd end
    pub complete : ¬ Rose (inputs.faults input) (inputs.faults input') → ¬ Rose (outputs.faults output) (outputs.faults output')
        → end ≢ Base status.TooLarge → IsRunOrLacking end

  -- the words behind `closures`
  pub record DoesClosures (words : List (List ℕ)) (input input' : I) (output output' : O) (end : MoreStatus) : Type 0 where
    pub well_formed : (limit : ℕ) → limit_in words ≡ Some limit → RunsClosures limit input input' output output' end
    pub malformed : limit_in words ≡ None → TellsUsage outputs closures_usage input input' output output' end
