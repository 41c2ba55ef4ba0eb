use Rattle.std.proofs.Common.{◌≡◌, length}
use Rattle.ifdb_row.specs.Questions.{rows_from}
use Rattle.ifdb_extract.proofs.Sizing.{IsSizedSoFar}
use Rattle.ifdb_extract.proofs.extract.size_in_journal.Given as goal

abbrev pub invariant-runs : goal.invariant-runs
invariant-runs l = record {
  rows : l.texts.rows.now ≡ l.rows;
  so : IsSizedSoFar l.changes l.texts.rows.now l.texts.edge l.size;
}

abbrev pub decreases-runs : goal.decreases-runs
decreases-runs l = length (rows_from l.texts.edge l.texts.rows.now)
