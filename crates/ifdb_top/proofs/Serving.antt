-- What comes of words of `host` that are well formed.
use Rattle.std.proofs.Common.{◌≡◌, ◌∙◌, ap, inl, subst, sym, ℕ, Bool, true, false, List, Option, None, Some}
use Rattle.std.proofs.lemmas.Bool.{false≢true}
use Rattle.ifdb_io.specs.declared.outside.Sink as sink
use Rattle.ifdb_loop.specs.declared.gate.Gate as gate
use Rattle.ifdb_loop.specs.declared.gate_site.GateSite as gate_site
use Rattle.ifdb_loop.specs.declared.port.Port as port
use Rattle.ifdb_disk.specs.declared.disk.Disk as disk
use Rattle.ifdb_disk.specs.declared.shelf.Shelf as shelf
use Rattle.ifdb_folder.specs.declared.folder.Folder as folder
use Rattle.ifdb_words.specs.Host.{host_in}
use Rattle.ifdb_words.specs.declared.host.Hosting.{Hosting}
use Rattle.ifdb_top.specs.declared.status.HostStatus.{HostStatus}
use Rattle.ifdb_top.specs.Host.{DoesHost, HostsByKey}

-- what words ask for, if they do
abbrev asked_or : Hosting → Option Hosting → Hosting
asked_or h None = h
asked_or h (Some x) = x

abbrev is_none : Option Hosting → Bool
is_none None = true
is_none (Some x) = false

pub does_host : {O S F D X Y G P : Type 0} {outputs : sink.Ghosts O} {folders : folder.Ghosts F D} {disks : disk.Ghosts D}
    {secrets : shelf.Ghosts X Y} {secret_disks : disk.Ghosts Y} {sites : gate_site.Ghosts S G P}
    {gates : gate.Ghosts G P} {ports : port.Ghosts P}
    {output output' : O} {before after : S} {folder folder' : F} {secret secret' : X} {words : List (List ℕ)} {end : HostStatus} (h : Hosting)
    → host_in words ≡ Some h → HostsByKey outputs folders disks secrets secret_disks sites gates ports output output' before after folder folder' secret secret' h end
    → DoesHost outputs folders disks secrets secret_disks sites gates ports output output' before after folder folder' secret secret' words end
does_host {O} {S} {F} {D} {X} {Y} {G} {P} {outputs} {folders} {disks} {secrets} {secret_disks} {sites} {gates} {ports} {output} {output'} {before} {after} {folder} {folder'} {secret} {secret'} {words} {end} h is hosts = record {
  well_formed = λ x e. inl (subst
      (λ (y : Hosting). HostsByKey outputs folders disks secrets secret_disks sites gates ports output output' before after folder folder' secret secret' y end)
      (ap (asked_or h) (sym is ∙ e)) hosts);
  malformed = λ e. absurd (false≢true (ap is_none (sym is ∙ e)));
}
