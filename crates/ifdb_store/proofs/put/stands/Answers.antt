use Rattle.std.proofs.Common.{◌≡◌, ◌∙◌, ◌≤◌, ◌<◌, ap, arith, get_or, length, map, sym}
use Rattle.std.proofs.Math.ListN.{get_or-map}
use Rattle.std.proofs.lemmas.List.{length-map}
use Rattle.ifdb_row.specs.declared.row.Row.{Row}
use Rattle.ifdb_row.specs.ByReference.{row_of, slot_of}
use Rattle.ifdb_row.proofs.Sorted.{taken_is, all_under, rising_sorted}
use Rattle.ifdb_store.proofs.put.stands.Goals as goal

pub returns-then-at-rows : goal.returns-then-at-rows
returns-then-at-rows c =
    let rows = map row_of c.args.rows.now in
    let s = slot_of c.args.slot in
    let at = c.args.at in
    let x = get_or c.args.rows.now at c.index-rows-at.result in
    let many = length-map c.args.rows.now row_of in
    let lt : at < length rows = omega arith in
    let same : x ≡ c.index-rows-at.result = sym c.index-rows-at.is in
    let is : row_of x ≡ get_or rows at (row_of x) = ap row_of (ap (λ y. get_or c.args.rows.now at y) (sym same)) ∙ sym (get_or-map row_of c.args.rows.now at x) in
    c.is_same.ensures ∙ taken_is (λ (r : Row). r.slot) s rows at (row_of x) (sym (rising_sorted rows) ∙ c.requires.rising) c.requires.place lt is

pub returns-else-at-rows : goal.returns-else-at-rows
returns-else-at-rows c =
    let rows = map row_of c.args.rows.now in
    let many = length-map c.args.rows.now row_of in
    let le : length rows ≤ c.args.at = omega arith in
    let t = all_under (λ (r : Row). r.slot) (slot_of c.args.slot) rows in
    grind (arith, t, c.requires.place)
