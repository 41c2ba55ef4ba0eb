-- decides: a compaction
-- Disks by their names, and what becomes of them.
use Rattle.std.specs.Prelude.{◌≡◌, ◌⊎◌, ℕ, Bool, List, [], ◌∷◌, bytes_eq, Option, Some, None, is_some, if◌then◌else◌, ⊤}
use Rattle.ifdb_disk.specs.Memory.{DiskState}
use Rattle.ifdb_folder.specs.declared.named.Named.{Named}

module _ {D : Type 0} where
  -- it has the name
  abbrev pub is_named : List ℕ → Named D → Bool
  is_named name n = bytes_eq n.name name

  -- the disk of a name, unless it is taken
  abbrev pub disk_of : List ℕ → List (Named D) → Option D
  disk_of name [] = None
  disk_of name (n ∷ disks) = if is_named name n then n.disk else disk_of name disks

  -- a disk has the name, or none has it, or it is taken. Where the folder doesn't tell it, nothing is said of it.
  abbrev pub IsThere : List ℕ → Bool → Option (List (Named D)) → Type 0
  IsThere name there None = ⊤
  IsThere name there (Some disks) = there ≡ is_some (disk_of name disks)

  -- another disk has the name, or none
  abbrev pub with_disk : List ℕ → Option D → List (Named D) → List (Named D)
  with_disk name disk [] = []
  with_disk name disk (n ∷ disks) = if is_named name n then record n { disk = disk } ∷ disks else n ∷ with_disk name disk disks

  -- the disk of the name was taken. Where it doesn't tell which that is, nothing is said of it.
  abbrev pub Takes : List ℕ → D → Option (List (Named D)) → Option (List (Named D)) → Type 0
  Takes name disk None after = after ≡ None
  Takes name disk (Some disks) after = (disk_of name disks ≡ Some disk) × (after ≡ Some (with_disk name None disks))

  -- the name has this disk from now on
  abbrev pub Gives : List ℕ → D → Option (List (Named D)) → Option (List (Named D)) → Type 0
  Gives name disk None after = after ≡ None
  Gives name disk (Some disks) after = after ≡ Some (with_disk name (Some disk) disks)

  -- this disk has the name `old` from now on, and the name `new` has none
  abbrev pub Replaces : List ℕ → D → List ℕ → Option (List (Named D)) → Option (List (Named D)) → Type 0
  Replaces new disk old None after = after ≡ None
  Replaces new disk old (Some disks) after = after ≡ Some (with_disk old (Some disk) (with_disk new None disks))

  -- each name has the disk that was taken by it
  abbrev pub GivesBoth : List ℕ → D → List ℕ → D → Option (List (Named D)) → Option (List (Named D)) → Type 0
  GivesBoth new disk old gone None after = after ≡ None
  GivesBoth new disk old gone (Some disks) after = after ≡ Some (with_disk old (Some gone) (with_disk new (Some disk) disks))

  -- the one or the other came about
  abbrev pub MayReplace : List ℕ → D → List ℕ → D → Option (List (Named D)) → Option (List (Named D)) → Type 0
  MayReplace new disk old gone before after = GivesBoth new disk old gone before after ⊎ Replaces new disk old before after

-- what a folder in memory shows
pub record FolderState : Type 0 where
  pub disks : List (Named DiskState)
  -- the numbers, from 0, of the calls that fail
  pub fails : List ℕ
  -- how many calls of `has`, `take` and `replace` there were, up to 2^64 - 1
  pub calls : ℕ
  -- how many of them failed, up to 2^64 - 1
  pub faults : ℕ
