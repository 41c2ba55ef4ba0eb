use Rattle.std.proofs.Common.{◌≡◌, ◌∙◌, ap, sym, Some}
use Rattle.std.specs.Prelude.{not}
use Rattle.ifdb_row.specs.ByReference.{option_row, slot_of}
use Rattle.ifdb_row.specs.declared.row.Row.{Row}
use Rattle.ifdb_row.specs.Slots.{slot_lt}
use Rattle.ifdb_row.specs.Edges.{slot_at}
use Rattle.ifdb_row.specs.Questions.{if_passes}
use Rattle.ifdb_row.proofs.Questions.{passes_first}
use Rattle.ifdb_store.specs.Links.{is_link_from, is_next_link, link_slot, row_behind}
use Rattle.ifdb_store.proofs.Walking.{later_down, later_same}
use Rattle.ifdb_store.proofs.links.link_behind.Goals as goal

pub returns-clause-link : goal.returns-clause-link
returns-clause-link c =
    let links = c.args.links.now in
    let print = c.args.print in
    let child = slot_of c.args.child in
    let first : option_row c.row_behind-link.result ≡ row_behind (slot_at c.link_table-table.result child.key child.label) links = c.row_behind-link.ensures.row in
    let table = ap (λ n. row_behind (slot_at n child.key child.label) links) c.link_table-table.ensures in
    c.if_from.ensures ∙ (ap (if_passes (is_link_from print)) (first ∙ table)
    ∙ sym (passes_first (λ (r : Row). not (slot_lt (link_slot print child) r.slot)) (is_link_from print) (is_next_link print (Some child)) (later_same print child) (later_down print child) links c.row_behind-link.ensures.rising))
