-- What comes of words of `compact` that are well formed.
use Rattle.std.proofs.Common.{◌≡◌, ◌∙◌, ap, inl, refl, subst, sym, ℕ, Bool, true, false, List, Option, None, Some}
use Rattle.std.proofs.lemmas.Bool.{false≢true}
use Rattle.ifdb_io.specs.declared.outside.Sink as sink
use Rattle.ifdb_disk.specs.declared.disk.Disk as disk
use Rattle.ifdb_folder.specs.declared.folder.Folder as folder
use Rattle.ifdb_words.specs.OneFile.{one_file_in}
use Rattle.ifdb_top.specs.declared.status.HostStatus.{HostStatus}
use Rattle.ifdb_top.specs.Compact.{CompactsFile, DoesCompact}

-- what words name, if they do
abbrev pub named_or : List ℕ → Option (List ℕ) → List ℕ
named_or name None = name
named_or name (Some x) = x

abbrev pub is_none : Option (List ℕ) → Bool
is_none None = true
is_none (Some x) = false

pub does_compact : {F D O : Type 0} {folders : folder.Ghosts F D} {disks : disk.Ghosts D} {outputs : sink.Ghosts O} {output : O} {before after : F}
    {words : List (List ℕ)} {end : HostStatus} (name : List ℕ) → one_file_in words ≡ Some name → CompactsFile folders disks name before after end
    → DoesCompact folders disks outputs output output before after words end
does_compact {F} {D} {O} {folders} {disks} {outputs} {output} {before} {after} {words} {end} name is compacts = record {
  well_formed = λ x e. (inl (subst (λ (n : List ℕ). CompactsFile folders disks n before after end) (ap (named_or name) (sym is ∙ e)) compacts), refl);
  malformed = λ e. absurd (false≢true (ap is_none (sym is ∙ e)));
}
