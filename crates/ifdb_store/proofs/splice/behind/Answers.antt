use Rattle.std.proofs.Common.{◌≡◌, ◌∙◌, ◌+◌, ◌≤◌, ap, arith, length, sym, true, false}
use Rattle.std.specs.Prelude.{if◌then◌else◌}
use Rattle.std.proofs.lemmas.Option.{get_or_from_slice_get, slice_get_within}
use Rattle.ifdb_row.specs.declared.row.Row.{Row}
use Rattle.ifdb_row.specs.ByReference.{row_of, slot_of}
use Rattle.ifdb_row.specs.Runs.{rows_in}
use Rattle.ifdb_row.proofs.Sorted.{taken, taken_is, all_under, rising_sorted}
use Rattle.ifdb_store.proofs.splice.behind.Goals as goal
use Rattle.ifdb_store.proofs.splice.behind.Goals.{else-at-len-via-then-at-len+else-is_same, else-at-len-via-else-at-len}

pub returns-then-is_same-clause-place : goal.returns-then-is_same-clause-place
returns-then-is_same-clause-place c =
    let rows = rows_in c.args.rows in
    let row = row_of c.row.result in
    let s = slot_of c.args.slot in
    let lt = slice_get_within rows c.args.at row c.row.ensures in
    let is = sym (get_or_from_slice_get rows c.args.at row row c.row.ensures) in
    let there : taken (λ (r : Row). r.slot) s rows ≡ true =
    sym (taken_is (λ (r : Row). r.slot) s rows c.args.at row (sym (rising_sorted rows) ∙ c.requires.rising) c.requires.place lt is) ∙ (sym c.is_same.ensures ∙ c.if-is_same.true) in
    sym (ap (λ b. c.args.at + (if b then 1 else 0)) there)

pub returns-else-at-len-clause-place : goal.returns-else-at-len-clause-place
returns-else-at-len-clause-place c =
    let rows = rows_in c.args.rows in
    let s = slot_of c.args.slot in
    let none : taken (λ (r : Row). r.slot) s rows ≡ false = elim c.else-at-len.branch [
      | else-at-len-via-then-at-len+else-is_same w ↦
          (let row = row_of w.row.result in
          let lt = slice_get_within rows c.args.at row w.row.ensures in
          let is = sym (get_or_from_slice_get rows c.args.at row row w.row.ensures) in
          sym (taken_is (λ (r : Row). r.slot) s rows c.args.at row (sym (rising_sorted rows) ∙ c.requires.rising) c.requires.place lt is) ∙ (sym w.is_same.ensures ∙ w.if-is_same.false))
      | else-at-len-via-else-at-len w ↦
          (let le : length rows ≤ c.args.at = omega (arith, c.len.ensures, w.if-at-len.false) in
          all_under (λ (r : Row). r.slot) s rows (omega (arith, le, c.requires.place)))
    ] in
    let zero : c.args.at ≡ c.args.at + 0 = omega arith in
    zero ∙ sym (ap (λ b. c.args.at + (if b then 1 else 0)) none)
