use Rattle.std.proofs.Common.{sym, ap, ◌∙◌, map, Some, List}
use Rattle.std.proofs.lemmas.List.{take_all}
use Rattle.ifdb_bound.specs.Query.{SourceRow, Combination, all_some}
use Rattle.ifdb_expr.specs.View.{view_row}
use Rattle.ifdb_group.proofs.Collecting.{all_there, one_missing, fault_goes_on, one_more}
use Rattle.ifdb_view.specs.Made.{setting}
use Rattle.ifdb_view.proofs.view_rows.each_row.Goals as goal

pub loop-frame-preserved : goal.loop-frame-preserved
loop-frame-preserved c views allows =
    one_more (view_row (setting c.args.reading.now.tags.now c.args.reading.now.names.now views allows) c.args.view.now) c.args.frames.now c.loop-frame.frame-index c.frame-item.result c.loop-frame.all c.in-Ok.row c.loop-frame-test.true c.frame-item.is (c.loop-frame.invariant views allows) (c.in-Ok.ensures views allows)
    ∙ ap (λ (l : List SourceRow). map (λ x. Some x) l) (sym c.in_ok-push-in-Ok.ensures.ok)

pub returns-in-Err : goal.returns-in-Err
returns-in-Err c views allows =
    fault_goes_on ((view_row (setting c.args.reading.now.tags.now c.args.reading.now.names.now views allows) c.args.view.now) c.frame-item.result) (all_some (map (view_row (setting c.args.reading.now.tags.now c.args.reading.now.names.now views allows) c.args.view.now) c.args.frames.now)) c.in-Err.fault
    (one_missing (view_row (setting c.args.reading.now.tags.now c.args.reading.now.names.now views allows) c.args.view.now) c.args.frames.now c.loop-frame.frame-index c.frame-item.result c.loop-frame-test.true c.frame-item.is) (c.in-Err.ensures views allows)

pub returns : goal.returns
returns c views allows =
    ap (λ (l : List Combination). all_some (map (view_row (setting c.args.reading.now.tags.now c.args.reading.now.names.now views allows) c.args.view.now) l)) (sym (take_all c.loop-frame.frame-index c.args.frames.now c.loop-frame-test.false))
    ∙ ap all_some (c.loop-frame.invariant views allows) ∙ all_there c.loop-frame.all
