use Rattle.std.proofs.Common.{◌+◌, ◌++◌, ◌∙◌, ap, sym, take, drop, arith}
use Rattle.std.specs.List.{flat_map}
use Rattle.std.proofs.lemmas.List.{append_assoc, drop_all}
use Rattle.ifdb_row.specs.Content.{after}
use Rattle.ifdb_row.specs.Writes.{are_rising, are_fitting, is_fitting}
use Rattle.ifdb_row.specs.declared.write.Write.{Write}
use Rattle.ifdb_row.proofs.Merging.{rising_drop}
use Rattle.ifdb_store.proofs.WriteLemmas.{rising_take, all_drop}
use Rattle.ifdb_store.proofs.part.parts_after.Goals as goal

pub part_after-requires-clause-rising : goal.part_after-requires-clause-rising
part_after-requires-clause-rising g c = ap are_rising c.split_at.ensures.front ∙ rising_take c.writes_at.result c.loop-i.rest.now c.loop-i.invariant.rising

pub loop-i-preserved : goal.loop-i-preserved
loop-i-preserved g c =
    let rows = g.P.Placed.rows in
    let i = c.loop-i.invariant in
    let x = c.index-parts-i.result in
    let d = c.writes_at.ensures.split x c.index-parts-i.is in
    let tail = after (flat_map rows (drop (c.loop-i.i + 1) c.args.parts.now)) in
    let added = c.in_ok-part_after.ensures.rows in
    let now = ap (λ ws. flat_map rows c.loop-i.out.items ++ after (rows x) ws) c.split_at.ensures.front in
    record {
      rows = ap (λ r. r ++ tail c.split_at.result.1.now) (added ∙ now)
          ∙ (ap (λ ws. (flat_map rows c.loop-i.out.items ++ after (rows x) (take c.writes_at.result c.loop-i.rest.now)) ++ tail ws) c.split_at.ensures.back
          ∙ (append_assoc (flat_map rows c.loop-i.out.items) (after (rows x) (take c.writes_at.result c.loop-i.rest.now)) (tail (drop c.writes_at.result c.loop-i.rest.now))
          ∙ (ap (λ r. flat_map rows c.loop-i.out.items ++ r) (sym d) ∙ i.rows)));
      good = c.in_ok-part_after.ensures.parts;
      fitting = ap are_fitting c.split_at.ensures.back ∙ all_drop (λ (w : Write). is_fitting w.slot w.row) c.writes_at.result c.loop-i.rest.now i.fitting;
      rising = ap are_rising c.split_at.ensures.back ∙ rising_drop c.writes_at.result c.loop-i.rest.now i.rising;
      all = λ e. c.split_at.ensures.back ∙ drop_all c.writes_at.result c.loop-i.rest.now (let l = c.writes_at.ensures.last e in omega arith);
    }
