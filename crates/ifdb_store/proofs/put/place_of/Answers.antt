use Rattle.std.proofs.Common.{◌∙◌, map}
use Rattle.ifdb_row.specs.declared.row.Row.{Row}
use Rattle.ifdb_row.specs.ByReference.{row_of, slot_of}
use Rattle.ifdb_row.specs.Slots.{slot_lt}
use Rattle.ifdb_row.proofs.Rising.{parted_at}
use Rattle.ifdb_store.proofs.Maps.{parted_map, reach_map}
use Rattle.ifdb_store.proofs.put.place_of.Goals as goal

pub place-requires : goal.place-requires
place-requires c = parted_map row_of (λ (r : Row). slot_lt r.slot (slot_of c.args.slot)) c.args.rows.now ∙ parted_at (slot_of c.args.slot) (map row_of c.args.rows.now) c.requires

pub returns-clause-reach : goal.returns-clause-reach
returns-clause-reach c = c.place.ensures.reach ∙ reach_map row_of (λ (r : Row). slot_lt r.slot (slot_of c.args.slot)) c.args.rows.now
