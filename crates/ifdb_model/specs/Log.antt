-- decides: the machine
-- The log: all changes of the server, in their order.
use Rattle.std.specs.Prelude.{ℕ, ◌+◌, List, [], ◌∷◌, ◌++◌, drop}
use Rattle.ifdb_label.specs.Tags.{MadeTag}
use Rattle.ifdb_row.specs.declared.slot.Slot.{Slot}
use Rattle.ifdb_row.specs.declared.row.Row.{Row}
use Rattle.ifdb_row.specs.declared.write.Write.{Write}
use Rattle.ifdb_row.specs.Writes.{slots_of}
use Rattle.ifdb_row.specs.Content.{content_from}
use Rattle.ifdb_row.specs.declared.commit.Commit.{Commit}
use Rattle.ifdb_bound.specs.declared.request.Change.{Change}
use Rattle.ifdb_catalog.specs.Public.{Public, opening as first_public, tags_of, changed}

-- a change of the public state, or a commit of some writes
pub data Entry : Type 0 where
  changes : Change → Entry
  commits : List Write → Entry

-- the public state after some entries
abbrev pub public_from : Public → List Entry → Public
public_from p [] = p
public_from p (changes c ∷ log) = public_from (changed p c) log
public_from p (commits ws ∷ log) = public_from p log

-- the public state that the log leaves
abbrev pub public_of : List Entry → Public
public_of log = public_from first_public log

-- all tags that the log made
abbrev pub all_tags : List Entry → List MadeTag
all_tags log = tags_of (public_of log)

-- the writes of each commit
abbrev pub commits_of : List Entry → List (List Write)
commits_of [] = []
commits_of (changes c ∷ log) = commits_of log
commits_of (commits ws ∷ log) = ws ∷ commits_of log

-- the rows that the log leaves
abbrev pub content_of : List Entry → List Row
content_of log = content_from [] (commits_of log)

-- the slots that the entries wrote
abbrev pub written_of : List Entry → List Slot
written_of [] = []
written_of (changes c ∷ log) = written_of log
written_of (commits ws ∷ log) = slots_of ws ++ written_of log

-- the commits with their stamps, where the first entry has this place in the log
abbrev pub stamped_from : ℕ → List Entry → List Commit
stamped_from at [] = []
stamped_from at (changes c ∷ log) = stamped_from (at + 1) log
stamped_from at (commits ws ∷ log) = record { stamp = at + 1; writes = ws } ∷ stamped_from (at + 1) log

-- the commits, with their stamps, that the log had after so many entries
abbrev pub commits_since : ℕ → List Entry → List Commit
commits_since begin log = stamped_from begin (drop begin log)
