use Rattle.ifdb_laws.proofs.Examples.{commit_label_row_plays, first_committer_row_plays, snapshot_row_plays}
use Rattle.ifdb_laws.proofs.worked.commit_rows.Goals as goal

pub returns-clause-commit_label : goal.returns-clause-commit_label
returns-clause-commit_label c = commit_label_row_plays

pub returns-clause-first_committer : goal.returns-clause-first_committer
returns-clause-first_committer c = first_committer_row_plays

pub returns-clause-snapshot : goal.returns-clause-snapshot
returns-clause-snapshot c = snapshot_row_plays
