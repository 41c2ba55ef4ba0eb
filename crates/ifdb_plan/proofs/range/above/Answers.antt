use Rattle.std.specs.Prelude.{not}
use Rattle.ifdb_row.specs.Ranges.{is_before}
use Rattle.ifdb_value.specs.Value.{value_cmp}
use Rattle.ifdb_plan.specs.Ranges.{is_before_high, is_behind_low, is_short}
use Rattle.ifdb_plan.proofs.Ranging.{low_and}
use Rattle.ifdb_plan.proofs.range.above.Goals as goal

pub returns : goal.returns
returns c v =
    low_and (not (is_short c.higher.result v)) (is_behind_low c.args.ends.low v) (is_before_high c.args.ends.high v) (not (is_before c.args.side (value_cmp v c.args.value.now))) (c.higher.ensures v)
