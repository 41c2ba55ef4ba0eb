-- decides: the program
-- What the program does by the words of `host`.
use Rattle.std.specs.Prelude.{◌≡◌, ◌⊎◌, ℕ, true, List, String, codes, Option, None, Some}
use Rattle.std.specs.declared.alloc.Global.{Global}
use Rattle.ifdb_io.specs.Causes.{Rose}
use Rattle.ifdb_io.specs.declared.outside.Source as source
use Rattle.ifdb_io.specs.declared.outside.Sink as sink
use Rattle.ifdb_io.specs.declared.doors.Door as door
use Rattle.ifdb_io.specs.declared.doors.Site as site
use Rattle.ifdb_disk.specs.Clock.{Now}
use Rattle.ifdb_disk.specs.declared.disk.Disk as disk
use Rattle.ifdb_disk.specs.declared.shelf.Shelf as shelf
use Rattle.ifdb_folder.specs.declared.folder.Folder as folder
use Rattle.ifdb_loop.specs.declared.gate.Gate as gate
use Rattle.ifdb_loop.specs.declared.gate_site.GateSite as gate_site
use Rattle.ifdb_loop.specs.declared.port.Port as port
use Rattle.ifdb_host.specs.Hosted.{HostsSite}
use Rattle.ifdb_host.specs.Plans.{loops_in, share_of}
use Rattle.ifdb_host.specs.Serving.{span_of}
use Rattle.ifdb_host.specs.declared.end.HostEnd.{HostEnd}
use Rattle.ifdb_host.specs.declared.end.HostEnd.TheVariants as hosted
use Rattle.ifdb_host.specs.declared.plan.Plan.{Plan}
use Rattle.ifdb_keyed.specs.Files.{IsKeyIn}
use Rattle.ifdb_keyed.specs.declared.admin_key.AdminKey.{AdminKey}
use Rattle.ifdb_words.specs.First.{behind_first, is_first}
use Rattle.ifdb_words.specs.Host.{host_in}
use Rattle.ifdb_words.specs.declared.host.Hosting.{Hosting}
use Rattle.ifdb_words.specs.declared.loops.LoopService.{LoopService}
use Rattle.ifdb_top.specs.declared.base.Status.TheVariants as status
use Rattle.ifdb_top.specs.declared.more.MoreStatus.{MoreStatus}
use Rattle.ifdb_top.specs.declared.more.MoreStatus.TheVariants.{Base, Damaged}
use Rattle.ifdb_top.specs.declared.status.HostStatus.{HostStatus}
use Rattle.ifdb_top.specs.declared.status.HostStatus.TheVariants.{More, DiskFault, NoKey, NotADatabase}
use Rattle.ifdb_top.specs.Base.{DoesBase}
use Rattle.ifdb_top.specs.Check.{DoesCheck}
use Rattle.ifdb_top.specs.Closures.{DoesClosures}
use Rattle.ifdb_top.specs.Compact.{IsReadied}
use Rattle.ifdb_top.specs.Keep.{DoesKeep}
use Rattle.ifdb_top.specs.Ends.{OnMore}
use Rattle.ifdb_top.specs.Lending.{Gave, GaveNone, Lends, Refuses}
use Rattle.ifdb_top.specs.More.{IsBase, IsCheck, IsClosures, IsKeep, IsProject, OnBase}
use Rattle.ifdb_top.specs.Project.{DoesProject}
use Rattle.ifdb_top.specs.Usage.{WritesUsage}

abbrev pub host_usage : List ℕ
host_usage = codes "usage: ifdb host --file F --admin-key A --port P [--loops W] [--connections N] [--limit B] [--hello S] [--idle S] [--stall S]\n"

-- the first word
abbrev pub IsHost : List (String Global) → Type 0
IsHost words = is_first (codes "host") words ≡ true

-- the status of an end
abbrev pub status_of : HostEnd → HostStatus
status_of hosted.Done = More (Base status.Done)
status_of hosted.WriteFault = More (Base status.WriteFault)
status_of hosted.OutOfMemory = More (Base status.OutOfMemory)
status_of hosted.SiteFault = More (Base status.SiteFault)
status_of hosted.DiskFault = DiskFault
status_of (hosted.Damaged at) = More (Damaged at)
status_of hosted.NotADatabase = NotADatabase

-- ---- the key for admin

module _ {T D : Type 0} (secrets : shelf.Ghosts T D) (disks : disk.Ghosts D) where
  -- a file was had from a shelf, and this is the key that it holds
  abbrev pub ReadsKey : List ℕ → T → T → Option AdminKey → Type 0
  ReadsKey name secret secret' key = Lends secrets name secret secret' (λ d _. Now (disks.tells d) (λ s. IsKeyIn s.bytes key))

  -- the file couldn't be opened or read
  abbrev pub FailsToRead : List ℕ → T → T → Type 0
  FailsToRead name secret secret' = Refuses {D = D} secrets name secret secret'
      ⊎ Lends secrets name secret secret' (λ d d'. Rose (disks.faults d) (disks.faults d'))

-- ---- the service

-- A database is served by this plan: as the words say, on a machine of some number of processors, by this key.
pub record IsPlanOf (service : LoopService) (key : AdminKey) (plan : Plan) : Type 0 where
  pub processors : ℕ
  pub port : plan.port ≡ service.port
  pub loops : plan.loops ≡ loops_in service processors
  pub connections : plan.terms.connections ≡ share_of service plan.loops
  pub limit : plan.limit ≡ service.limit
  pub hello : plan.terms.hello ≡ service.patience.hello
  pub idle : plan.terms.idle ≡ service.patience.idle
  pub stall : plan.terms.stall ≡ service.patience.stall
  pub key_is : plan.key ≡ key

module _ {O S F D G P : Type 0} (outputs : sink.Ghosts O) (folders : folder.Ghosts F D) (disks : disk.Ghosts D)
    (sites : gate_site.Ghosts S G P) (gates : gate.Ghosts G P) (ports : port.Ghosts P) where
  -- a database on a disk was served to this end
  abbrev pub HostsOn : Plan → O → O → S → S → HostEnd → D → D → Type 0
  HostsOn plan output output' before after end disk disk' =
      HostsSite sites gates ports outputs plan before after output output' (span_of disks.tells disks.faults disk disk') end

  -- The folder gave a disk, the database on it was served, and the disk was given back; or it gave none.
  abbrev pub HostsFile : List ℕ → Plan → O → O → S → S → F → F → HostStatus → Type 0
  HostsFile file plan output output' before after folder folder' end =
      ((e : HostEnd) × (end ≡ status_of e) × Gave folders file folder folder' (HostsOn plan output output' before after e))
      ⊎ ((end ≡ DiskFault) × (output' ≡ output) × (after ≡ before) × GaveNone folders folder folder')

  -- The database was as it was, or was compacted, and then it was served.
  abbrev pub HostsDatabase : Hosting → AdminKey → O → O → S → S → F → F → HostStatus → Type 0
  HostsDatabase h key output output' before after folder folder' end =
      (plan : Plan) × IsPlanOf h.service key plan
      × (readied : F) × IsReadied folders disks h.file folder readied × HostsFile h.file plan output output' before after readied folder' end

module _ {O S F D X Y G P : Type 0} (outputs : sink.Ghosts O) (folders : folder.Ghosts F D) (disks : disk.Ghosts D)
    (secrets : shelf.Ghosts X Y) (secret_disks : disk.Ghosts Y) (sites : gate_site.Ghosts S G P) (gates : gate.Ghosts G P) (ports : port.Ghosts P)
    (output output' : O) (before after : S) (folder folder' : F) (secret secret' : X) where
  -- nothing was written, and neither the site nor the folder was asked for anything
  abbrev pub IsUntouched : Type 0
  IsUntouched = (output' ≡ output) × (after ≡ before) × (folder' ≡ folder)

  -- the database was served by the key that the file holds
  abbrev pub ServesByKey : Hosting → HostStatus → Type 0
  ServesByKey h end = (key : AdminKey) × ReadsKey secrets secret_disks h.key_file secret secret' (Some key)
      × HostsDatabase outputs folders disks sites gates ports h key output output' before after folder folder' end

  -- nobody was served, since the file holds no key, or couldn't be read
  abbrev pub LacksKey : Hosting → HostStatus → Type 0
  LacksKey h end = IsUntouched × (((end ≡ NoKey) × ReadsKey secrets secret_disks h.key_file secret secret' None)
      ⊎ ((end ≡ DiskFault) × FailsToRead secrets secret_disks h.key_file secret secret'))

  -- the file of the key was opened once, and then the database's, if there is a key
  abbrev pub HostsByKey : Hosting → HostStatus → Type 0
  HostsByKey h end = ServesByKey h end ⊎ LacksKey h end

  -- the words behind `host`, unless there was no memory to read them
  pub record DoesHost (words : List (List ℕ)) (end : HostStatus) : Type 0 where
    pub well_formed : (h : Hosting) → host_in words ≡ Some h
        → HostsByKey h end ⊎ ((end ≡ More (Base status.OutOfMemory)) × IsUntouched × (secret' ≡ secret))
    pub malformed : host_in words ≡ None
        → OnMore end (WritesUsage outputs host_usage output output') × (after ≡ before) × (folder' ≡ folder) × (secret' ≡ secret)

module _ {I O S T D G K : Type 0} (inputs : source.Ghosts I) (outputs : sink.Ghosts O) (shelves : shelf.Ghosts T D) (disks : disk.Ghosts D)
    (sites : site.Ghosts S G K) (doors : door.Ghosts G K) (sources : source.Ghosts K) (sinks : sink.Ghosts K) where
  -- what `top_more` says of words
  pub record DoesMore (words : List (String Global)) (input input' : I) (output output' : O) (before after : S) (shelf shelf' : T) (end : MoreStatus) : Type 0 where
    pub base : IsBase words → OnBase end (DoesBase inputs outputs sites doors sources sinks words input input' output output' before after)
    pub check : IsCheck words → DoesCheck inputs outputs (behind_first words) input input' output output' end
    pub project : IsProject words → DoesProject inputs outputs (behind_first words) input input' output output' end
    pub keep : IsKeep words → DoesKeep inputs outputs shelves disks (behind_first words) input input' output output' shelf shelf' end
    pub closures : IsClosures words → DoesClosures inputs outputs (behind_first words) input input' output output' end
    pub other_site : (IsBase words → ⊥) → after ≡ before
    pub other_shelf : (IsKeep words → ⊥) → shelf' ≡ shelf
