use Rattle.std.proofs.Common.{◌≡◌, take, map, true}
use Rattle.std.specs.List.{list_all}
use Rattle.ifdb_catalog.specs.Statements.{values_at}
use Rattle.ifdb_bind.specs.Listed.{listed_fills, places_in}
use Rattle.ifdb_bind.proofs.inserts.listed_rows.Given as goal

-- the rows so far fit, and are arranged
abbrev pub invariant-loop-row : goal.invariant-loop-row
invariant-loop-row l = record {
  fit : list_all (listed_fills l.columns l.key l.names) (take l.row-index l.rows) ≡ true;
  rows : l.arranged ≡ map (λ row. values_at row (places_in l.names l.columns)) (take l.row-index l.rows);
}
