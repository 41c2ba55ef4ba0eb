use Rattle.std.proofs.Common.{◌≡◌, ◌∙◌, ap, sym, true}
use Rattle.std.specs.Prelude.{◌&&◌, find, is_some}
use Rattle.ifdb_row.specs.ByReference.{option_row, option_slot, slot_of}
use Rattle.ifdb_row.specs.declared.row.Row.{Row}
use Rattle.ifdb_row.specs.Questions.{is_child_of, is_past}
use Rattle.ifdb_store.proofs.FindLemmas.{part_finds, part_passes_none, some_row, none_row}
use Rattle.ifdb_store.proofs.part.bound_to.Goals as goal

pub returns-then-is_some : goal.returns-then-is_some
returns-then-is_some g c =
    let q = λ (r : Row). is_child_of (slot_of c.args.slot) r && is_past (option_slot c.args.after) r.slot in
    let x = c.part-item.result in
    let found : option_row c.bound_to-row.result ≡ find q (g.P.Placed.rows x) = c.bound_to-row.ensures ∙ ap (λ y. find q (g.P.Placed.rows y)) c.get.ensures in
    let some : is_some (find q (g.P.Placed.rows x)) ≡ true = ap is_some (sym found) ∙ (sym (some_row c.bound_to-row.result) ∙ (sym c.is_some.ensures ∙ c.if-is_some.true)) in
    found ∙ sym (part_finds q g.P.Placed.rows c.args.parts.now c.loop-part.part-index x c.loop-part.invariant c.loop-part-test.true c.part-item.is some)

pub loop-part-preserved : goal.loop-part-preserved
loop-part-preserved g c =
    let q = λ (r : Row). is_child_of (slot_of c.args.slot) r && is_past (option_slot c.args.after) r.slot in
    let x = c.part-item.result in
    let found : option_row c.bound_to-row.result ≡ find q (g.P.Placed.rows x) = c.bound_to-row.ensures ∙ ap (λ y. find q (g.P.Placed.rows y)) c.get.ensures in
    let none = sym found ∙ none_row c.bound_to-row.result (sym c.is_some.ensures ∙ c.if-is_some.false) in
    part_passes_none q g.P.Placed.rows c.args.parts.now c.loop-part.part-index x c.loop-part.invariant c.loop-part-test.true c.part-item.is none
