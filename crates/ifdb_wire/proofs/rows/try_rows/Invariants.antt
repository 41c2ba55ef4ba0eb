use Rattle.std.proofs.Common.{◌≡◌, ◌++◌, take}
use Rattle.std.specs.Prelude.{flat_map}
use Rattle.ifdb_wire.specs.Text.{line, rows_head, row_text}
use Rattle.ifdb_wire.proofs.rows.try_rows.Given as goal

-- the lines so far
abbrev pub invariant-loop-row : goal.invariant-loop-row
invariant-loop-row l = record {
  text : l.out.text ≡ line l.fn.out.session (rows_head l.fn.table) ++ flat_map (λ row. line l.fn.out.session (row_text row)) (take l.row-index l.fn.table.rows);
  session : l.out.session ≡ l.fn.out.session;
}
