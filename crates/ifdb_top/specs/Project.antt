-- decides: the program
-- What the program does by the words of `project`.
use Rattle.std.specs.Prelude.{◌≡◌, ◌≢◌, ◌≤◌, ℕ, List, [], codes, Some, None}
use Rattle.ifdb_io.specs.Causes.{Rose}
use Rattle.ifdb_io.specs.declared.outside.Source as source
use Rattle.ifdb_io.specs.declared.outside.Sink as sink
use Rattle.ifdb_trace.specs.Projected.{ProjectedWhole, ProjectedFront, ProjectedPast, ProjectedCut}
use Rattle.ifdb_words.specs.Project.{project_in}
use Rattle.ifdb_words.specs.declared.project.Project.{Project}
use Rattle.ifdb_top.specs.declared.base.Status.TheVariants as status
use Rattle.ifdb_top.specs.declared.more.MoreStatus.{MoreStatus}
use Rattle.ifdb_top.specs.declared.more.MoreStatus.TheVariants.{Base}
use Rattle.ifdb_top.specs.Usage.{TellsUsage}

abbrev pub project_usage : List ℕ
project_usage = codes "usage: ifdb project --tags T [--limit N]\n"

-- a script was projected, or there was no memory
abbrev pub IsProjectEnd : MoreStatus → Type 0
IsProjectEnd (Base status.Done) = Unit {0}
IsProjectEnd (Base status.ReadFault) = Unit {0}
IsProjectEnd (Base status.WriteFault) = Unit {0}
IsProjectEnd (Base status.OutOfMemory) = Unit {0}
IsProjectEnd (Base status.TooLarge) = Unit {0}
IsProjectEnd _ = ⊥

-- the same where nothing had a fault and the script keeps to its limit
abbrev pub IsProjectedOrLacking : MoreStatus → Type 0
IsProjectedOrLacking (Base status.Done) = Unit {0}
IsProjectedOrLacking (Base status.OutOfMemory) = Unit {0}
IsProjectedOrLacking _ = ⊥

module _ {I O : Type 0} (inputs : source.Ghosts I) (outputs : sink.Ghosts O) where
  -- the projection of a script to this level, with this limit
  pub record ProjectsScript (p : Project) (input input' : I) (output output' : O) (end : MoreStatus) : Type 0 where
    pub done : end ≡ Base status.Done → ProjectedWhole p.limit p.level
        (inputs.left input) (inputs.left input') (outputs.written output) (outputs.written output')
    pub read : end ≡ Base status.ReadFault → Rose (inputs.faults input) (inputs.faults input')
    pub read_front : end ≡ Base status.ReadFault → ProjectedFront (λ n. n ≤ p.limit) p.level []
        (inputs.left input) (inputs.left input') (outputs.written output) (outputs.written output')
    pub write : end ≡ Base status.WriteFault → Rose (outputs.faults output) (outputs.faults output')
    pub write_front : end ≡ Base status.WriteFault → ProjectedCut p.limit p.level
        (inputs.left input) (inputs.left input') (outputs.written output) (outputs.written output')
    pub too_large : end ≡ Base status.TooLarge → ProjectedPast p.limit p.level
        (inputs.left input) (inputs.left input') (outputs.written output) (outputs.written output')
    pub memory_front : end ≡ Base status.OutOfMemory → ProjectedCut p.limit p.level
        (inputs.left input) (inputs.left input') (outputs.written output) (outputs.written output')
    pub unfailed : end ≢ Base status.ReadFault → inputs.faults input' ≡ inputs.faults input
    pub ends : IsProjectEnd end
    pub complete : ¬ Rose (inputs.faults input) (inputs.faults input') → ¬ Rose (outputs.faults output) (outputs.faults output')
        → end ≢ Base status.TooLarge → IsProjectedOrLacking end

  -- the words behind `project`
  pub record DoesProject (words : List (List ℕ)) (input input' : I) (output output' : O) (end : MoreStatus) : Type 0 where
    pub well_formed : (p : Project) → project_in words ≡ Some p → ProjectsScript p input input' output output' end
    pub malformed : project_in words ≡ None → TellsUsage outputs project_usage input input' output output' end
