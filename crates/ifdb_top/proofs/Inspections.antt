-- What comes of words of `inspect` that are well formed.
use Rattle.std.proofs.Common.{◌≡◌, ◌∙◌, ap, inl, subst, sym, ℕ, List, Some}
use Rattle.std.proofs.lemmas.Bool.{false≢true}
use Rattle.ifdb_io.specs.declared.outside.Sink as sink
use Rattle.ifdb_disk.specs.declared.disk.Disk as disk
use Rattle.ifdb_folder.specs.declared.folder.Folder as folder
use Rattle.ifdb_words.specs.OneFile.{one_file_in}
use Rattle.ifdb_top.specs.declared.status.HostStatus.{HostStatus}
use Rattle.ifdb_top.specs.Inspect.{InspectsFile, DoesInspect}
use Rattle.ifdb_top.proofs.Compactions.{is_none, named_or}

pub does_inspect : {F D O : Type 0} {folders : folder.Ghosts F D} {disks : disk.Ghosts D} {outputs : sink.Ghosts O} {output output' : O} {before after : F}
    {words : List (List ℕ)} {end : HostStatus} (name : List ℕ) → one_file_in words ≡ Some name → InspectsFile folders disks outputs name output output' before after end
    → DoesInspect folders disks outputs output output' before after words end
does_inspect {F} {D} {O} {folders} {disks} {outputs} {output} {output'} {before} {after} {words} {end} name is inspects = record {
  well_formed = λ x e. inl (subst (λ (n : List ℕ). InspectsFile folders disks outputs n output output' before after end) (ap (named_or name) (sym is ∙ e)) inspects);
  malformed = λ e. absurd (false≢true (ap is_none (sym is ∙ e)));
}
