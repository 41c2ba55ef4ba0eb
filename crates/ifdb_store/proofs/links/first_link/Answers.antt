use Rattle.std.proofs.Common.{◌≡◌, ◌∙◌, ◌*◌, ap, sym, None}
use Rattle.std.specs.Prelude.{find, nat_lt, not}
use Rattle.ifdb_row.specs.ByReference.{option_row}
use Rattle.ifdb_row.specs.declared.row.Row.{Row}
use Rattle.ifdb_row.specs.Questions.{if_passes}
use Rattle.ifdb_row.proofs.Questions.{passes_first}
use Rattle.ifdb_store.specs.Links.{is_link_from, is_next_link}
use Rattle.ifdb_store.proofs.Walking.{first_down, first_same}
use Rattle.ifdb_store.proofs.links.first_link.Goals as goal

pub returns-clause-link : goal.returns-clause-link
returns-clause-link c =
    let links = c.args.links.now in
    let print = c.args.print in
    let first : option_row c.first_from.result ≡ find (λ (r : Row). not (nat_lt r.slot.table (c.from.result * 4294967296))) links = c.first_from.ensures.row in
    let table = ap (λ n. find (λ (r : Row). not (nat_lt r.slot.table (n * 4294967296))) links) c.from.ensures in
    c.if_from.ensures ∙ (ap (if_passes (is_link_from print)) (first ∙ table)
    ∙ sym (passes_first (λ (r : Row). nat_lt r.slot.table (print * 4294967296)) (is_link_from print) (is_next_link print None) (first_same print) (first_down print) links c.first_from.ensures.rising))
