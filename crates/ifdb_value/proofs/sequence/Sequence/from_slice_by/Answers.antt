use Rattle.std.proofs.Common.{◌≡◌, IfOk, refl, arith, subst}
use Rattle.std.proofs.lemmas.Fn.{says_at}
use Rattle.std.proofs.lemmas.Grind.{common_steps}
use Rattle.ifdb_value.proofs.sequence.Sequence.from_slice_by.Goals as goal

pub loop-item-preserved : goal.loop-item-preserved
loop-item-preserved g c =
    let exact : IfOk c.copy.result (λ y. y ≡ c.item-item.result) = c.requires.exact c.item-item.result c.copy.result (says_at g.F.Fn c.copy.ensures refl) in
    let same : c.in_ok-copy.field-0 ≡ c.item-item.result = subst (λ r. IfOk r (λ y. y ≡ c.item-item.result)) c.in_ok-copy.was exact in
    grind (arith, common_steps, same)
