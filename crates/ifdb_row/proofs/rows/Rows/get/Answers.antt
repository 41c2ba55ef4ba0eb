use Rattle.std.proofs.Common.{◌≡◌, ◌∙◌, ap, sym}
use Rattle.std.specs.Prelude.{not, find}
use Rattle.ifdb_row.specs.declared.row.Row.{Row}
use Rattle.ifdb_row.specs.ByReference.{option_row, slot_of}
use Rattle.ifdb_row.specs.Slots.{slot_lt, is_same_slot}
use Rattle.ifdb_row.specs.Questions.{if_passes}
use Rattle.ifdb_row.proofs.Questions.{passes_first, get_same, get_down}
use Rattle.ifdb_row.proofs.rows.Rows.get.Goals as goal

pub returns-clause-row : goal.returns-clause-row
returns-clause-row g c =
    let s = slot_of c.args.slot in
    let rows = g.Self.Rows.rows c.args.self.now in
    let e : option_row c.first_from.result ≡ find (λ (r : Row). not (slot_lt r.slot s)) rows = c.first_from.ensures.row in
    c.if_in.ensures ∙ (ap (if_passes (λ r. is_same_slot s r.slot)) e
    ∙ sym (passes_first (λ r. slot_lt r.slot s) (λ r. is_same_slot s r.slot) (λ r. is_same_slot s r.slot) (get_same s) (get_down s) rows c.first_from.ensures.rising))
