use Rattle.std.proofs.Common.{◌≡◌, sym, ap, ◌∙◌, refl, map, Some, subst}
use Rattle.std.proofs.lemmas.Fn.{says_at}
use Rattle.std.proofs.lemmas.List.{take_all}
use Rattle.ifdb_bound.specs.Query.{all_some}
use Rattle.ifdb_expr.specs.Tells.{Tells}
use Rattle.ifdb_group.proofs.Collecting.{all_there, one_missing, fault_goes_on, one_more}
use Rattle.ifdb_group.proofs.collect.collected.Goals as goal

pub loop-item-init : goal.loop-item-init
loop-item-init g c gives sound = ap (map (λ x. Some x)) (sym c.in_ok-all.ensures)

pub loop-item-preserved : goal.loop-item-preserved
loop-item-preserved g c gives sound =
    let told : Tells (gives c.item-item.result) c.give.result = sound c.item-item.result c.give.result (says_at g.F.Fn c.give.ensures refl) in
    let value : gives c.item-item.result ≡ Some c.in-Ok.value = subst (λ r. Tells (gives c.item-item.result) r) c.in-Ok.is told in
    one_more gives c.args.items.now c.loop-item.item-index c.item-item.result c.loop-item.all c.in-Ok.value c.loop-item-test.true c.item-item.is (c.loop-item.invariant gives sound) value
    ∙ ap (map (λ x. Some x)) (sym c.in_ok-push-in-Ok.ensures.ok)

pub returns : goal.returns
returns g c gives sound =
    ap (λ l. all_some (map gives l)) (sym (take_all c.loop-item.item-index c.args.items.now c.loop-item-test.false)) ∙ ap all_some (c.loop-item.invariant gives sound) ∙ all_there c.loop-item.all

pub returns-in-Err : goal.returns-in-Err
returns-in-Err g c gives sound =
    let told : Tells (gives c.item-item.result) c.give.result = sound c.item-item.result c.give.result (says_at g.F.Fn c.give.ensures refl) in
    fault_goes_on (gives c.item-item.result) (all_some (map gives c.args.items.now)) c.in-Err.fault (one_missing gives c.args.items.now c.loop-item.item-index c.item-item.result c.loop-item-test.true c.item-item.is)
    (subst (λ r. Tells (gives c.item-item.result) r) c.in-Err.is told)
