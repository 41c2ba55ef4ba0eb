-- decides: the program
-- What the program does by the words of `run`, `serve` and `generate`, and by others that aren't well formed.
use Rattle.std.specs.Prelude.{◌≡◌, ◌≢◌, ◌≤◌, ◌⊎◌, ℕ, List, String}
use Rattle.std.specs.declared.alloc.Global.{Global}
use Rattle.ifdb_io.specs.Causes.{Rose}
use Rattle.ifdb_io.specs.declared.outside.Source as source
use Rattle.ifdb_io.specs.declared.outside.Sink as sink
use Rattle.ifdb_io.specs.declared.doors.Door as door
use Rattle.ifdb_io.specs.declared.doors.Site as site
use Rattle.ifdb_script.specs.Run.{RanWhole, RanFront, RanPast, RanCut, CutsDontMatter, IsToldByBytes, IsFramedRun, KeepsLevels}
use Rattle.ifdb_service.specs.Site.{GivesNone, IsCut, IsDone, IsUnserved}
use Rattle.ifdb_words.specs.Words.{command_of}
use Rattle.ifdb_words.specs.declared.service.Service.{Service}
use Rattle.ifdb_top.specs.declared.base.Status.{Status}
use Rattle.ifdb_top.specs.declared.base.Status.TheVariants.{Done, Usage, ReadFault, WriteFault, OutOfMemory, TooLarge, SiteFault}
use Rattle.ifdb_top.specs.Status.{EndsWell, IsServeEnd, IsUsage}
use Rattle.ifdb_top.specs.Texts.{IsWritten, text_for}
use Rattle.ifdb_top.specs.Words.{IsRefused, IsRun, IsServe, IsText, NeedsNoInput, NeedsNoSite}

module _ {I O S D K : Type 0} (inputs : source.Ghosts I) (outputs : sink.Ghosts O) (sites : site.Ghosts S D K) where
  module _ (doors : door.Ghosts D K) (sources : source.Ghosts K) (sinks : sink.Ghosts K) where
    pub record DoesBase (words : List (String Global)) (input input' : I) (output output' : O) (site site' : S) (status : Status) : Type 0 where
      -- ---- the script's output
      pub done : (limit : ℕ) → IsRun limit words → status ≡ Done
          → RanWhole limit (inputs.left input) (inputs.left input') (outputs.written output) (outputs.written output')
      pub told_by_bytes : (limit : ℕ) → IsRun limit words → status ≡ Done
          → IsToldByBytes limit (inputs.left input) (inputs.left input') (outputs.written output) (outputs.written output')
      pub framed : (limit : ℕ) → IsRun limit words → status ≡ Done
          → IsFramedRun limit (inputs.left input) (inputs.left input') (outputs.written output) (outputs.written output')
      pub cuts : CutsDontMatter
      pub two_worlds : (limit : ℕ) → IsRun limit words → status ≡ Done
          → KeepsLevels limit (inputs.left input) (inputs.left input') (outputs.written output) (outputs.written output')
      -- ---- faults of a script, and what was written before them
      pub read : status ≡ ReadFault → Rose (inputs.faults input) (inputs.faults input')
      pub read_front : (limit : ℕ) → IsRun limit words → status ≡ ReadFault
          → RanFront limit (inputs.left input) (inputs.left input') (outputs.written output) (outputs.written output')
      pub write : status ≡ WriteFault → Rose (outputs.faults output) (outputs.faults output')
      pub write_front : (limit : ℕ) → IsRun limit words → status ≡ WriteFault
          → RanCut limit (inputs.left input) (inputs.left input') (outputs.written output) (outputs.written output')
      pub too_large : (limit : ℕ) → IsRun limit words → status ≡ TooLarge
          → RanPast limit (inputs.left input) (inputs.left input') (outputs.written output) (outputs.written output')
      pub memory : NeedsNoSite words → status ≡ OutOfMemory → (input' ≡ input) × (output' ≡ output)
      pub complete : ¬ IsRefused words → ¬ Rose (inputs.faults input) (inputs.faults input')
          → ¬ Rose (outputs.faults output) (outputs.faults output')
          → ¬ Rose (sites.faults site) (sites.faults site')
          → status ≢ TooLarge → EndsWell status
      -- ---- the service
      pub served : (s : Service) → IsServe s words → status ≡ Done
          → IsDone sites doors sources sinks outputs s site site' output output'
      pub served_cut : (s : Service) → IsServe s words → status ≡ WriteFault
          → IsCut sites doors sources sinks outputs s site site' output output'
      pub unserved : (s : Service) → IsServe s words → status ≡ OutOfMemory
          → ((site' ≡ site) × (output' ≡ output)) ⊎ IsUnserved sites doors sources sinks outputs s site site' output output'
      pub site_fault : status ≡ SiteFault → Rose (sites.faults site) (sites.faults site')
      pub no_doors : (s : Service) → IsServe s words → status ≡ SiteFault → GivesNone sites s site site' × (output' ≡ output)
      pub serve_ends : (s : Service) → IsServe s words → IsServeEnd status
      -- ---- other words
      pub usage : status ≡ Usage → IsRefused words
      pub refused : IsRefused words → IsUsage status
      pub text : IsText words → IsWritten (text_for (command_of words)) status (outputs.written output) (outputs.written output')
      pub other_input : NeedsNoInput words → input' ≡ input
      pub other_site : NeedsNoSite words → site' ≡ site
      -- ---- what is so at every end
      pub unfailed : status ≢ ReadFault → inputs.faults input' ≡ inputs.faults input
      pub input_later : inputs.faults input ≤ inputs.faults input'
      pub output_later : outputs.faults output ≤ outputs.faults output'
      pub site_later : sites.faults site ≤ sites.faults site'
