use Rattle.std.proofs.Common.{◌≡◌, Bool, List, Some, map, take}
use Rattle.ifdb_bound.specs.declared.schema.ViewDef.{ViewDef}
use Rattle.ifdb_expr.specs.View.{view_row}
use Rattle.ifdb_view.specs.Made.{setting}
use Rattle.ifdb_view.proofs.view_rows.each_row.Given as goal

-- each combination so far has a row
abbrev pub invariant-loop-frame : goal.invariant-loop-frame
invariant-loop-frame l =
    (views : List ViewDef) (allows : ViewDef → Bool) → map (view_row (setting l.reading.tags.now l.reading.names.now views allows) l.view) (take l.frame-index l.frames) ≡ map Some l.all
