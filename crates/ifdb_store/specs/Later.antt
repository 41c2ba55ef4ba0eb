-- Labels of later commits.
use Rattle.std.specs.Prelude.{ℕ, Bool, List}
use Rattle.std.specs.List.{list_all}
use Rattle.ifdb_label.specs.Tags.{are_made}
use Rattle.ifdb_row.specs.declared.write.Write.{Write}
use Rattle.ifdb_row.specs.declared.commit.Commit.{Commit}

-- the labels of the written slots are of made tags
abbrev pub are_writes_made : ℕ → List Write → Bool
are_writes_made n ws = list_all (λ (w : Write). are_made n w.slot.label) ws

-- so of each commit's writes
abbrev pub are_commits_made : ℕ → List Commit → Bool
are_commits_made n commits = list_all (λ (c : Commit). are_writes_made n c.writes) commits
