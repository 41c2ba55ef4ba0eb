use Rattle.std.proofs.Common.{rules}
use Rattle.std.proofs.lemmas.List.Sorted.{IsPartitionPoint-from_clause}
use Rattle.ifdb_row.specs.ByReference.{slot_of}
use Rattle.ifdb_row.specs.Slots.{slot_lt}
use Rattle.ifdb_row.proofs.Reaches.{front_passes, rest_fails}
use Rattle.ifdb_store.proofs.WriteLemmas.{parted_writes}
use Rattle.ifdb_store.proofs.part.writes_before.Goals as goal

pub returns : goal.returns
returns c =
    let point = IsPartitionPoint-from_clause (λ w. slot_lt w.slot (slot_of c.args.slot)) _ _ c.partition_point.ensures.partitioned (parted_writes (slot_of c.args.slot) _ c.requires) (λ a w q k. search rules) in
    record {
      within = c.partition_point.ensures.bound;
      before = front_passes (λ w. slot_lt w.slot (slot_of c.args.slot)) _ _ c.partition_point.ensures.bound point.0;
      behind = rest_fails (λ w. slot_lt w.slot (slot_of c.args.slot)) _ _ c.partition_point.ensures.bound point.1;
    }
