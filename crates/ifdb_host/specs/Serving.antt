-- decides: a served database
-- What serving a database that was opened did.
use Rattle.std.specs.Prelude.{◌≡◌, ◌⊎◌, ℕ, ◌≤◌, List, [], map, All, Option, ⊤}
use Rattle.std.specs.Io.KnownBytes.{Appends}
use Rattle.ifdb_io.specs.Causes.{Rose, WritesShort}
use Rattle.ifdb_io.specs.declared.outside.Sink as sink
use Rattle.ifdb_loop.specs.declared.gate.Gate as gate
use Rattle.ifdb_loop.specs.declared.gate_site.GateSite as site
use Rattle.ifdb_loop.specs.declared.port.Port as port
use Rattle.ifdb_io.specs.declared.doors.SiteFault.{SiteFault}
use Rattle.ifdb_io.specs.declared.doors.SiteFault.TheVariants as refusal
use Rattle.ifdb_disk.specs.Clock.{Clock}
use Rattle.ifdb_turn.specs.declared.turnstile.Turnstile.{Turnstile}
use Rattle.ifdb_turn.specs.declared.turnstile.Pass.{Pass}
use Rattle.ifdb_turn.specs.Histories.{AllRight}
use Rattle.ifdb_turn.specs.Passes.{history, places, shares, BelongsTo, IsOrderly}
use Rattle.ifdb_turn.specs.Views.{all_shares}
use Rattle.ifdb_model.specs.Log.{Entry as LogEntry}
use Rattle.ifdb_history.specs.declared.entry.Entry.{Entry}
use Rattle.ifdb_history.specs.History.{after as state_after, IsRight, WasOpened}
use Rattle.ifdb_session.specs.declared.counts.Counts.{Counts}
use Rattle.ifdb_session.specs.Counts.{counts_of}
use Rattle.ifdb_session.specs.Starts.{start_of}
use Rattle.ifdb_service.specs.Summary.{listening_line}
use Rattle.ifdb_gates.specs.Served.{Run, IsRunIn, numbers_of, times_in}
use Rattle.ifdb_reopen.specs.Files.{ShowsLog}
use Rattle.ifdb_host.specs.Fronts.{HasFrontOf, IsKeptSince, LeavesFrom}
use Rattle.ifdb_host.specs.Gates.{AllEnded, GivesNone, IsServedOver, OneFailed}
use Rattle.ifdb_host.specs.Hosted.{DiskRose, DiskSpan, IsUnvisited, WroteAll, WroteFront}
use Rattle.ifdb_host.specs.declared.plan.Plan.{Plan}
use Rattle.ifdb_host.specs.declared.end.HostEnd.{HostEnd}
use Rattle.ifdb_host.specs.declared.end.HostEnd.TheVariants as ends

-- how a service ends whose site gave no gates
abbrev pub site_end : SiteFault → HostEnd
site_end refusal.Failed = ends.SiteFault
site_end refusal.OutOfMemory = ends.OutOfMemory

-- these bytes were written, or a front of them, and so the service ends
pub record Tells {W : Type 0} (outputs : sink.Ghosts W) (old new : W) (bytes : List ℕ) (end : HostEnd) : Type 0 where
  pub how : (end ≡ ends.Done) ⊎ (end ≡ ends.WriteFault)
  pub all : end ≡ ends.Done → Appends (outputs.written old) (outputs.written new) bytes
  pub short : end ≡ ends.WriteFault → WritesShort (outputs.written old) (outputs.written new) bytes
  pub cause : end ≡ ends.WriteFault → Rose (outputs.faults old) (outputs.faults new)

-- a disk at two moments
abbrev pub span_of : {D : Type 0} → (D → Option Clock) → (D → ℕ) → D → D → DiskSpan
span_of tells faults old new = record { before = tells old; after = tells new; faults = faults old; faults_after = faults new }

-- the first pass of a turnstile, which has all shares and has seen nothing of a history that begins over a log
pub record IsWholePass {X : Type 0} (first : List LogEntry) (hall : Turnstile X Entry) (pass : Pass X Entry) : Type 0 where
  pub belongs : BelongsTo hall pass
  pub orderly : IsOrderly (IsRight (start_of first)) pass
  pub nothing : history pass ≡ []
  pub none : places pass ≡ []
  pub whole : shares pass ≡ all_shares

-- The disk was opened behind a title of so many bytes. If it showed a log then, each image since is the file of that and of a
-- front of this history.
abbrev pub LeavesFronts : List LogEntry → ℕ → DiskSpan → List Entry → Type 0
LeavesFronts first size d h = (texts : List (List ℕ)) → size ≡ 16 → ShowsLog d.before texts first → LeavesFrom d.before d.after (HasFrontOf texts first h 0)

-- if it showed a log then, these texts have been on it behind those of the log since some moment
abbrev pub IsKeptBehind : List LogEntry → ℕ → DiskSpan → List (List ℕ) → Type 0
IsKeptBehind first size d xs = (texts : List (List ℕ)) → size ≡ 16 → ShowsLog d.before texts first → IsKeptSince texts d.after xs

module _ {P : Type 0} (ports : port.Ghosts P) (key : List ℕ) (limit : ℕ) (first : List LogEntry) where
  -- All gates were served, in one history over the log, which was counted so. Each of its sessions is that of one connection.
  pub record VisitedAll {G : Type 0} (gates : gate.Ghosts G P) (size : ℕ) (d : DiskSpan) (HasFailed : Type 0) (given back : List G) (counts : Counts) : Type 0 where
    pub log : List Entry
    pub order : AllRight (IsRight (start_of first)) log
    pub runs : List (Run G P)
    pub before : map (λ r. r.before) runs ≡ given
    pub after : map (λ r. r.after) runs ≡ back
    pub served : All (IsRunIn ports key limit first (IsKeptBehind first size d) HasFailed gates log) runs
    pub each : (n : ℕ) → WasOpened (state_after (start_of first) log) n → times_in n (numbers_of runs) ≡ 1
    pub counted : counts ≡ counts_of first log
    pub fronts : LeavesFronts first size d log

module _ {S G P W : Type 0} (sites : site.Ghosts S G P) (gates : gate.Ghosts G P) (ports : port.Ghosts P) (outputs : sink.Ghosts W)
    (first : List LogEntry) (plan : Plan) (before after : S) (output output' : W) (size : ℕ) (d : DiskSpan) where
  -- a site was served by one history over the log, and its gates ended so
  pub record ServedHere (HasFailed : Type 0) (Ends : List (Run G P) → Type 0) (Wrote : List ℕ → Type 0) : Type 0 where
    pub served : IsServedOver sites gates ports first (IsKeptBehind first size d) HasFailed Ends Wrote plan before after
    pub fronts : LeavesFronts first size d served.log

  abbrev pub Wrote : List ℕ → Type 0
  Wrote = WroteAll sites gates ports outputs plan before after output output' d

  abbrev pub WroteShort : List ℕ → Type 0
  WroteShort = WroteFront sites gates ports outputs plan before after output output' d

  abbrev pub WroteLine : List ℕ → Type 0
  WroteLine bytes = Wrote (listening_line plan.port)

  -- the service ended so
  pub record ServesOpened (end : HostEnd) : Type 0 where
    pub done : end ≡ ends.Done → ServedHere ⊥ (AllEnded gates) Wrote
    pub cut : end ≡ ends.WriteFault → Rose (outputs.faults output) (outputs.faults output')
        × ((IsUnvisited sites gates ports plan before after × WroteShort (listening_line plan.port) × LeavesFronts first size d []) ⊎ ServedHere ⊥ (AllEnded gates) WroteShort)
    pub disk : end ≡ ends.DiskFault → DiskRose d × ServedHere (DiskRose d) (λ _. ⊤) WroteLine
    pub site : end ≡ ends.SiteFault →
        (Rose (sites.faults before) (sites.faults after) × GivesNone sites plan before after × (output' ≡ output) × LeavesFronts first size d [])
        ⊎ ServedHere ⊥ (OneFailed gates) WroteLine
    pub memory : end ≡ ends.OutOfMemory → LeavesFronts first size d []
        × (((after ≡ before) × (output' ≡ output))
        ⊎ ((GivesNone sites plan before after ⊎ IsUnvisited sites gates ports plan before after) × ((output' ≡ output) ⊎ Wrote (listening_line plan.port))))
    pub opened : (at : ℕ) → end ≡ ends.Damaged at → ⊥
    pub titled : end ≡ ends.NotADatabase → ⊥
    pub output_later : outputs.faults output ≤ outputs.faults output'
    pub site_later : sites.faults before ≤ sites.faults after
