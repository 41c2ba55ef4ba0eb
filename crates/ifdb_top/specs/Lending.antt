-- decides: the program
-- A disk that was had from a shelf, or from a folder.
use Rattle.std.specs.Prelude.{◌≡◌, ℕ, List, Ok, Err}
use Rattle.ifdb_io.specs.Causes.{Rose}
use Rattle.ifdb_io.specs.declared.outside.Failed.{Failed}
use Rattle.ifdb_disk.specs.declared.shelf.Shelf as shelf
use Rattle.ifdb_disk.specs.Shelf.{Opens, Closes}
use Rattle.ifdb_folder.specs.declared.folder.Folder as folder
use Rattle.ifdb_folder.specs.Folders.{Gives, Takes}

module _ {S D : Type 0} (shelves : shelf.Ghosts S D) where
  -- `open` was called once, with this name, and gave a disk; this became of it, and then it was handed to `close`
  pub record Lends (name : List ℕ) (before after : S) (Became : D → D → Type 0) : Type 0 where
    pub given : D
    pub back : D
    pub between : S
    pub opened : Opens name (shelves.tells before) (shelves.tells between) (Ok given)
    pub closed : Closes back (shelves.tells between) (shelves.tells after)
    pub became : Became given back

  -- `open` was called once, with this name, and failed
  pub record Refuses (name : List ℕ) (before after : S) : Type 0 where
    pub opened : (f : Failed) → Opens {D = D} name (shelves.tells before) (shelves.tells after) (Err f)
    pub rose : Rose (shelves.faults before) (shelves.faults after)

module _ {F D : Type 0} (folders : folder.Ghosts F D) where
  -- `take` was called once, with this name, and gave a disk; this became of it, and then it was given back by that name
  pub record Gave (name : List ℕ) (before after : F) (Became : D → D → Type 0) : Type 0 where
    pub given : D
    pub back : D
    pub between : F
    pub taken : Takes name given (folders.tells before) (folders.tells between)
    pub returned : Gives name back (folders.tells between) (folders.tells after)
    pub became : Became given back

  -- a call failed, and nothing was taken
  pub record GaveNone (before after : F) : Type 0 where
    pub same : folders.tells after ≡ folders.tells before
    pub rose : Rose (folders.faults before) (folders.faults after)
