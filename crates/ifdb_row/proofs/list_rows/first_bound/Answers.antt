use Rattle.std.proofs.Common.{◌≡◌, sym, true, false, rules}
use Rattle.std.specs.Prelude.{◌&&◌}
use Rattle.std.proofs.lemmas.Option.{get_or_from_slice_get, slice_get_within}
use Rattle.ifdb_row.specs.declared.row.Row.{Row}
use Rattle.ifdb_row.specs.ByReference.{option_slot, row_of, slot_of}
use Rattle.ifdb_row.specs.Questions.{is_child_of, is_past}
use Rattle.ifdb_row.specs.Runs.{rows_in}
use Rattle.ifdb_row.proofs.Reaches.{find_here, none_here}
use Rattle.ifdb_row.proofs.list_rows.first_bound.Goals as goal

pub returns-then-is_bound : goal.returns-then-is_bound
returns-then-is_bound c =
    let q = λ (r : Row). is_child_of (slot_of c.args.slot) r && is_past (option_slot c.args.after) r.slot in
    let rows = rows_in c.args.rows in
    let row = row_of c.row-row.result in
    let x : q row ≡ true = search rules in
    sym (find_here q rows c.loop-place.place row c.loop-place.invariant (slice_get_within rows c.loop-place.place row c.row-row.ensures) (sym (get_or_from_slice_get rows c.loop-place.place row row c.row-row.ensures)) x)

pub loop-place-preserved : goal.loop-place-preserved
loop-place-preserved c =
    let q = λ (r : Row). is_child_of (slot_of c.args.slot) r && is_past (option_slot c.args.after) r.slot in
    let rows = rows_in c.args.rows in
    let row = row_of c.row-row.result in
    let x : q row ≡ false = search rules in
    none_here q rows c.loop-place.place row c.loop-place.invariant (slice_get_within rows c.loop-place.place row c.row-row.ensures) (sym (get_or_from_slice_get rows c.loop-place.place row row c.row-row.ensures)) x
