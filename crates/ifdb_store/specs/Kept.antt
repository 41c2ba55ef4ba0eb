-- What a store keeps, and the log that it stands for.
use Rattle.std.specs.Prelude.{◌≡◌, ℕ, Bool, List, [], ◌++◌, ◌<◌, ◌≤◌, ◌∷◌, nat_lt, map, filter}
use Rattle.ifdb_row.specs.declared.row.Row.{Row}
use Rattle.ifdb_row.specs.Content.{after, content_from}
use Rattle.ifdb_row.specs.declared.commit.Commit.{Commit}

-- the rows, and the commits that are kept
pub record Kept : Type 0 where
  pub rows : List Row
  pub commits : List Commit

-- the store after a commit
abbrev pub committed : Kept → Commit → Kept
committed kept c = record { rows = after kept.rows c.writes; commits = kept.commits ++ c ∷ [] }

-- the commit is later than a stamp
abbrev pub is_later : ℕ → Commit → Bool
is_later stamp c = nat_lt stamp c.stamp

abbrev pub trimmed : ℕ → List Commit → List Commit
trimmed oldest commits = filter (is_later oldest) commits

-- the rows after some commits
abbrev pub rows_after : List Commit → List Row
rows_after log = content_from [] (map (λ (c : Commit). c.writes) log)

-- the store stands for a log, of which it keeps the commits above the floor
pub record StandsFor (kept : Kept) (log : List Commit) (floor : ℕ) : Type 0 where
  pub rows : kept.rows ≡ rows_after log
  pub commits : kept.commits ≡ trimmed floor log

-- after a commit the store stands for the longer log
abbrev pub Installs : Type 0
Installs = (kept : Kept) (log : List Commit) (floor : ℕ) (c : Commit) → StandsFor kept log floor → floor < c.stamp
    → StandsFor (committed kept c) (log ++ c ∷ []) floor

-- after commits are given up it stands for the same log, with a higher floor
abbrev pub Trims : Type 0
Trims = (kept : Kept) (log : List Commit) (floor oldest : ℕ) → StandsFor kept log floor → floor ≤ oldest
    → StandsFor (record { rows = kept.rows; commits = trimmed oldest kept.commits }) log oldest

-- it tells the commits after each BEGIN that isn't below the floor
abbrev pub Tells : Type 0
Tells = (kept : Kept) (log : List Commit) (floor begin : ℕ) → StandsFor kept log floor → floor ≤ begin → trimmed begin kept.commits ≡ trimmed begin log
