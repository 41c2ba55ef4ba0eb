use Rattle.std.proofs.Common.{◌∙◌, ap, rules}
use Rattle.std.specs.Prelude.{not}
use Rattle.std.specs.List.{list_all}
use Rattle.std.proofs.lemmas.List.Sorted.{IsPartitionPoint-from_clause}
use Rattle.ifdb_row.specs.declared.write.Write.{Write}
use Rattle.ifdb_row.proofs.Reaches.{skip_drop, parted_by, front_passes, rest_fails}
use Rattle.ifdb_commit.specs.Meeting.{is_behind_key}
use Rattle.ifdb_commit.proofs.KeyLemmas.{before, before_falls, parted_writes, skip_fails}
use Rattle.ifdb_commit.proofs.later.writes_from.Goals as goal

pub returns-clause-writes : goal.returns-clause-writes
returns-clause-writes c =
    let s = c.args.slot.now in
    let p = is_behind_key s in
    let parted = parted_writes (before s.table s.key) (before_falls s.table c.items.result s.key c.items.ensures) c.args.own.now c.requires in
    let point = IsPartitionPoint-from_clause p _ _ c.partition_point-at.ensures.partitioned (parted_by p _ parted) (λ a w q k. search rules) in
    c.split_at.ensures.back ∙ skip_drop p _ _ c.partition_point-at.ensures.bound (front_passes p _ _ c.partition_point-at.ensures.bound point.0) (rest_fails p _ _ c.partition_point-at.ensures.bound point.1)

pub returns-clause-from_key : goal.returns-clause-from_key
returns-clause-from_key c =
    let s = c.args.slot.now in
    let p = is_behind_key s in
    let parted = parted_writes (before s.table s.key) (before_falls s.table c.items.result s.key c.items.ensures) c.args.own.now c.requires in
    ap (list_all (λ (w : Write). not (p w))) (returns-clause-writes c) ∙ skip_fails p c.args.own.now parted
