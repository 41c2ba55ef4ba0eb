use Rattle.std.proofs.Common.{◌∙◌, sym, rules}
use Rattle.std.proofs.lemmas.List.Sorted.{IsPartitionPoint-from_clause}
use Rattle.ifdb_row.specs.declared.write.Write.{Write}
use Rattle.ifdb_row.specs.ByReference.{slot_of}
use Rattle.ifdb_row.specs.Slots.{slot_lt}
use Rattle.ifdb_row.proofs.Sorted.{parted_sorted, are_rising_sorted}
use Rattle.ifdb_row.proofs.Reaches.{reach_is, parted_by, front_passes, rest_fails}
use Rattle.ifdb_row.proofs.writes.place_of.Goals as goal

pub returns-clause-place : goal.returns-clause-place
returns-clause-place c =
    let p = λ (w : Write). slot_lt w.slot (slot_of c.args.slot) in
    let point = IsPartitionPoint-from_clause p _ _ c.partition_point.ensures.partitioned (parted_by p _ (parted_sorted (λ (w : Write). w.slot) (slot_of c.args.slot) c.args.items.now (sym (are_rising_sorted c.args.items.now) ∙ c.requires))) (λ a w q k. search rules) in
    reach_is p _ _ c.partition_point.ensures.bound (front_passes p _ _ c.partition_point.ensures.bound point.0) (rest_fails p _ _ c.partition_point.ensures.bound point.1)
