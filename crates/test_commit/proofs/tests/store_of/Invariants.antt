use Rattle.std.proofs.Common.{◌≡◌, true, length}
use Rattle.std.specs.List.{list_all}
use Rattle.ifdb_row.specs.declared.commit.Commit.{Commit}
use Rattle.ifdb_store.specs.Later.{are_writes_made}
use Rattle.test_commit.proofs.tests.store_of.Given as goal

abbrev pub invariant-loop-entry : goal.invariant-loop-entry
invariant-loop-entry l = list_all (λ (c : Commit). are_writes_made (length l.tags) c.writes) l.store.commits ≡ true
