-- What all see outside transactions, and what the database keeps of its past.
use Rattle.std.specs.Prelude.{ℕ, ◌+◌, ◌==◌, List, [], ◌∷◌, ◌++◌, Option, Some, None, if◌then◌else◌}
use Rattle.ifdb_row.specs.declared.commit.Commit.{Commit}
use Rattle.ifdb_row.specs.Content.{after}
use Rattle.ifdb_store.specs.Kept.{trimmed}
use Rattle.ifdb_catalog.specs.Public.{changed}
use Rattle.ifdb_model.specs.Log.{Entry, changes, commits}
use Rattle.ifdb_model.specs.Session.{Session, Seen, Txn}
use Rattle.ifdb_model.specs.Step.{Outcome}

-- what all see, the commits that an open transaction may meet, how many entries the log has, and where the open transactions
-- began, the oldest first
pub record Desk : Type 0 where
  pub seen : Seen
  pub commits : List Commit
  pub count : ℕ
  pub begins : List ℕ

-- the first of the begins, or the end of the log where there is none
abbrev pub oldest_of : List ℕ → ℕ → ℕ
oldest_of [] count = count
oldest_of (begin ∷ begins) count = begin

-- the oldest BEGIN whose transaction is open; the end of the log, if none is
abbrev pub oldest : Desk → ℕ
oldest d = oldest_of d.begins d.count

-- the commits that no open transaction can meet are given up
abbrev pub settled : Desk → Desk
settled d = record d { commits = trimmed (oldest d) d.commits }

-- one more entry, if one is added; a commit is stamped with the length of the log behind it
abbrev pub with_entry : Desk → Option Entry → Desk
with_entry d None = d
with_entry d (Some (changes c)) = record d { seen = record d.seen { public = changed d.seen.public c }; count = d.count + 1 }
with_entry d (Some (commits ws)) = record d {
  seen = record d.seen { rows = after d.seen.rows ws };
  commits = d.commits ++ record { stamp = d.count + 1; writes = ws } ∷ [];
  count = d.count + 1;
}

-- one of the begins is taken away
abbrev pub without : ℕ → List ℕ → List ℕ
without begin [] = []
without begin (b ∷ begins) = if b == begin then begins else b ∷ without begin begins

-- where the open transactions began, once a session came from one transaction, or none, to another
abbrev pub begins_after : Option Txn → Option Txn → List ℕ → List ℕ
begins_after None None begins = begins
begins_after None (Some y) begins = begins ++ y.begin ∷ []
begins_after (Some x) None begins = without x.begin begins
begins_after (Some x) (Some y) begins = begins

-- the desk once a session came to an outcome
abbrev pub moved : Session → Outcome → Desk → Desk
moved s o d = settled (record (with_entry d o.added) { begins = begins_after s.txn o.session.txn d.begins })
