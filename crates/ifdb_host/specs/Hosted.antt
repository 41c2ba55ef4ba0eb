-- decides: a served database
-- What the service of a database on a disk did.
use Rattle.std.specs.Prelude.{◌≡◌, ◌⊎◌, ℕ, ◌≤◌, List, [], Option, ⊤}
use Rattle.std.specs.Io.KnownBytes.{Appends}
use Rattle.ifdb_io.specs.Causes.{Rose, WritesShort}
use Rattle.ifdb_io.specs.declared.outside.Sink as sink
use Rattle.ifdb_loop.specs.declared.gate.Gate as gate
use Rattle.ifdb_loop.specs.declared.gate_site.GateSite as site
use Rattle.ifdb_loop.specs.declared.port.Port as port
use Rattle.ifdb_disk.specs.Clock.{Clock, Now}
use Rattle.ifdb_log.specs.Title.{IsOther}
use Rattle.ifdb_log.specs.declared.fault.LogFault.{LogFault}
use Rattle.ifdb_log.specs.declared.fault.LogFault.TheVariants as fault
use Rattle.ifdb_model.specs.Log.{Entry as LogEntry}
use Rattle.ifdb_history.specs.declared.entry.Entry.{Entry}
use Rattle.ifdb_service.specs.Summary.{listening_line}
use Rattle.ifdb_gates.specs.Served.{Run}
use Rattle.ifdb_reopen.specs.Files.{IsFileOn, IsNewOn, IsTold, IsUnopened, ShowsLog}
use Rattle.ifdb_host.specs.Fronts.{HasFrontOf, IsKeptSince, LeavesFrom}
use Rattle.ifdb_host.specs.Gates.{AllEnded, Exchanges, GivesNone, IsServedOver, OneFailed}
use Rattle.ifdb_host.specs.declared.plan.Plan.{Plan}
use Rattle.ifdb_host.specs.declared.end.HostEnd.{HostEnd}
use Rattle.ifdb_host.specs.declared.end.HostEnd.TheVariants as ends

-- how a service ends whose log wasn't read to its end
abbrev pub end_of : LogFault → HostEnd
end_of fault.Disk = ends.DiskFault
end_of fault.NotALog = ends.NotADatabase
end_of (fault.Damaged at) = ends.Damaged at
end_of fault.OutOfMemory = ends.OutOfMemory

-- ---- the file

-- A database was opened over the log that the disk held, or over none on a new one. From then on each image is the file of that log
-- and of a front of what this history added to it.
pub record IsKeptOn (disk disk' : Option Clock) (h : List Entry) : Type 0 where
  pub first : List LogEntry
  pub texts : List (List ℕ)
  pub opened : Option Clock
  pub held : (xs : List (List ℕ)) (log : List LogEntry) → IsFileOn disk xs log → first ≡ log
  pub fresh : IsNewOn disk → first ≡ []
  pub opening : IsUnopened disk opened
  pub shows : IsTold disk → ShowsLog opened texts first
  pub fronts : IsTold disk → LeavesFrom opened disk' (HasFrontOf texts first h 0)

-- ---- the service

-- a disk before, and after, and its counts of faults
pub record DiskSpan : Type 0 where
  pub before : Option Clock
  pub after : Option Clock
  pub faults : ℕ
  pub faults_after : ℕ

-- its count of faults rose
abbrev pub DiskRose : DiskSpan → Type 0
DiskRose d = Rose d.faults d.faults_after

module _ {S G P : Type 0} (sites : site.Ghosts S G P) (gates : gate.Ghosts G P) (ports : port.Ghosts P) where
  -- A site was served by a database: by one history over the log that the disk held. What a written reply was answered from has been
  -- on the disk since some moment, and a reply was held back only where the disk has failed. The gates ended so.
  pub record IsHosted (HasFailed : Type 0) (Ends : List (Run G P) → Type 0) (Wrote : List ℕ → Type 0) (plan : Plan) (before after : S) (d : DiskSpan) : Type 0 where
    pub log : List Entry
    pub kept : IsKeptOn d.before d.after log
    pub served : IsServedOver sites gates ports kept.first
        (λ texts. IsTold d.before → IsKeptSince kept.texts d.after texts) HasFailed Ends Wrote plan before after
    pub same : served.log ≡ log

  -- the gates went back as they came
  abbrev pub IsUnvisited : Plan → S → S → Type 0
  IsUnvisited plan before after = (given : List G) × Exchanges sites plan before after given given

  module _ {W : Type 0} (outputs : sink.Ghosts W) (plan : Plan) (before after : S) (output output' : W) (d : DiskSpan) where
    -- nothing was written, and the site wasn't asked for anything
    abbrev pub IsUntouched : Type 0
    IsUntouched = (after ≡ before) × (output' ≡ output)

    -- these bytes were written, or a front of them
    abbrev pub WroteAll : List ℕ → Type 0
    WroteAll bytes = Appends (outputs.written output) (outputs.written output') bytes

    abbrev pub WroteFront : List ℕ → Type 0
    WroteFront bytes = WritesShort (outputs.written output) (outputs.written output') bytes

    -- the line was written that says that connections may come, and no more
    abbrev pub WroteListening : List ℕ → Type 0
    WroteListening bytes = WroteAll (listening_line plan.port)

    -- a database was opened, and nobody was served
    abbrev pub IsIdle : Type 0
    IsIdle = IsKeptOn d.before d.after []

    -- The service ended so. Where it was done, or only the counts couldn't be written, each gate was at its end, and no reply was held
    -- back. Nor was one where a gate failed, unless the disk has failed too, which is told then.
    pub record HostsSite (end : HostEnd) : Type 0 where
      pub done : end ≡ ends.Done → IsHosted ⊥ (AllEnded gates) WroteAll plan before after d
      pub cut : end ≡ ends.WriteFault → Rose (outputs.faults output) (outputs.faults output')
          × ((IsUnvisited plan before after × WroteFront (listening_line plan.port) × IsIdle) ⊎ IsHosted ⊥ (AllEnded gates) WroteFront plan before after d)
      pub disk : end ≡ ends.DiskFault → DiskRose d
          × ((IsUntouched × IsUnopened d.before d.after) ⊎ IsHosted (DiskRose d) (λ _. ⊤) WroteListening plan before after d)
      pub site : end ≡ ends.SiteFault →
          (Rose (sites.faults before) (sites.faults after) × GivesNone sites plan before after × (output' ≡ output) × IsIdle)
          ⊎ IsHosted ⊥ (OneFailed gates) WroteListening plan before after d
      pub memory : end ≡ ends.OutOfMemory → (IsUnopened d.before d.after ⊎ IsIdle)
          × (IsUntouched ⊎ ((GivesNone sites plan before after ⊎ IsUnvisited plan before after) × ((output' ≡ output) ⊎ WroteAll (listening_line plan.port))))
      pub damaged : (at : ℕ) → end ≡ ends.Damaged at → IsUntouched × IsUnopened d.before d.after
          × ((texts : List (List ℕ)) (log : List LogEntry) → IsFileOn d.before texts log → ⊥)
      pub other : end ≡ ends.NotADatabase → IsUntouched × (d.after ≡ d.before) × Now d.before (λ shown. IsOther shown.bytes)
      pub output_later : outputs.faults output ≤ outputs.faults output'
      pub site_later : sites.faults before ≤ sites.faults after
