use Rattle.std.proofs.Common.{◌≡◌, length}
use Rattle.std.specs.Prelude.{filter, IsTrue}
use Rattle.ifdb_row.specs.ByReference.{option_slot, slot_of}
use Rattle.ifdb_row.specs.Questions.{row_bound_to}
use Rattle.ifdb_store.specs.Links.{is_near_if, is_next_link, print_of}
use Rattle.ifdb_store.proofs.links.first_child.Given as goal

-- behind the slot the same child is the first
abbrev pub invariant-links : goal.invariant-links
invariant-links l = record {
  same : row_bound_to (slot_of l.slot) (option_slot l.behind) l.rows ≡ row_bound_to (slot_of l.slot) (option_slot l.after) l.rows;
  near : IsTrue (is_near_if (option_slot l.behind));
}

abbrev pub decreases-links : goal.decreases-links
decreases-links l = length (filter (is_next_link (print_of (slot_of l.slot)) (option_slot l.behind)) l.links)
