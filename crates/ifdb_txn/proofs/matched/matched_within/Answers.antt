use Rattle.std.proofs.Common.{◌-◌, length, None, ap, take, ◌∙◌, arith}
use Rattle.std.specs.Prelude.{filter, map}
use Rattle.ifdb_row.specs.Content.{rising}
use Rattle.ifdb_row.specs.declared.row.Row.{Row}
use Rattle.ifdb_row.specs.Ranges.{is_slot_in, rows_within}
use Rattle.ifdb_row.specs.Runs.{rows_in}
use Rattle.ifdb_row.proofs.TableWalks.{rises, last_passes, last_row, made_run, no_last, fewer_left, kept_on, kept_end}
use Rattle.ifdb_row.specs.ByReference.{option_slot, row_of}
use Rattle.ifdb_txn.specs.Matches.{is_wanted}
use Rattle.ifdb_txn.proofs.ByKey.{matched_in_range}
use Rattle.ifdb_txn.proofs.Deleting.{rising_matched}
use Rattle.ifdb_txn.proofs.matched.matched_within.Goals as goal

pub keep_matched-requires-clause-rows_made : goal.keep_matched-requires-clause-rows_made
keep_matched-requires-clause-rows_made g c =
    made_run (length c.args.target.now.from.tags.now) (λ (r : Row). is_slot_in c.args.target.now.table c.args.range.now r.slot) (option_slot c.loop-last.after) (g.R.Rows.rows c.args.rows.now) (rows_in c.within-run.result) c.requires.made.rows_made c.within-run.ensures.run

pub loop-last-smaller : goal.loop-last-smaller
loop-last-smaller g c =
    fewer_left (λ (r : Row). is_slot_in c.args.target.now.table c.args.range.now r.slot) (option_slot c.loop-last.after) (g.R.Rows.rows c.args.rows.now) (rows_in c.within-run.result) (take (length (rows_in c.within-run.result) - 1) (rows_in c.within-run.result)) (row_of c.in-Some.last) (rises (g.R.Rows.rows c.args.rows.now) c.within-run.ensures.rising)
    (last_row (rows_in c.within-run.result) (row_of c.in-Some.last) c.in-Some.ensures) c.within-run.ensures.run

pub loop-last-preserved : goal.loop-last-preserved
loop-last-preserved g c = record {
  after = last_passes (λ (r : Row). is_slot_in c.args.target.now.table c.args.range.now r.slot) (option_slot c.loop-last.after) (g.R.Rows.rows c.args.rows.now) (rows_in c.within-run.result) (take (length (rows_in c.within-run.result) - 1) (rows_in c.within-run.result)) (row_of c.in-Some.last)
      (last_row (rows_in c.within-run.result) (row_of c.in-Some.last) c.in-Some.ensures) c.within-run.ensures.run;
  kept = kept_on (is_wanted c.args.target.now.from.tags.now c.args.cond.now c.args.target.now.from.label.now) (λ (r : Row). is_slot_in c.args.target.now.table c.args.range.now r.slot) (option_slot c.loop-last.after) (g.R.Rows.rows c.args.rows.now) (rows_in c.within-run.result) (take (length (rows_in c.within-run.result) - 1) (rows_in c.within-run.result)) (row_of c.in-Some.last)
      (map row_of c.loop-last.found.items) (map row_of c.keep_matched.new.found.items)
      (filter (is_wanted c.args.target.now.from.tags.now c.args.cond.now c.args.target.now.from.label.now) (rows_within c.args.target.now.table c.args.range.now None (g.R.Rows.rows c.args.rows.now)))
      (rises (g.R.Rows.rows c.args.rows.now) c.within-run.ensures.rising)
      (last_row (rows_in c.within-run.result) (row_of c.in-Some.last) c.in-Some.ensures) c.within-run.ensures.run c.in_ok-keep_matched.ensures c.loop-last.invariant.kept;
}

pub returns-in_default-clause-rows : goal.returns-in_default-clause-rows
returns-in_default-clause-rows g c =
    kept_end (is_wanted c.args.target.now.from.tags.now c.args.cond.now c.args.target.now.from.label.now) (λ (r : Row). is_slot_in c.args.target.now.table c.args.range.now r.slot) (option_slot c.loop-last.after) (g.R.Rows.rows c.args.rows.now) (rows_in c.within-run.result)
    (map row_of c.loop-last.found.items) (filter (is_wanted c.args.target.now.from.tags.now c.args.cond.now c.args.target.now.from.label.now) (rows_within c.args.target.now.table c.args.range.now None (g.R.Rows.rows c.args.rows.now)))
    c.within-run.ensures.run (no_last (rows_in c.within-run.result) c.in_default.ensures) c.loop-last.invariant.kept
    ∙ matched_in_range c.args.target.now.from.tags.now (g.R.Rows.rows c.args.rows.now) c.args.target.now.table c.args.target.now.schema.now.key c.args.range.now c.args.cond.now c.args.target.now.from.label.now c.requires.has_range c.requires.keyed

pub returns-in_default-clause-rising : goal.returns-in_default-clause-rising
returns-in_default-clause-rising g c =
    let same = ap rising (returns-in_default-clause-rows g c) in
    let up = rising_matched c.args.target.now.from.tags.now (g.R.Rows.rows c.args.rows.now) c.args.target.now.table c.args.cond.now c.args.target.now.from.label.now (rises (g.R.Rows.rows c.args.rows.now) c.within-run.ensures.rising) in
    grind arith
