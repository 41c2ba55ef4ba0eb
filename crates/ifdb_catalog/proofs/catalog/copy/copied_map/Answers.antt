use Rattle.std.proofs.Common.{◌≡◌, IfOk, refl, subst}
use Rattle.std.proofs.lemmas.Fn.{says_at}
use Rattle.ifdb_catalog.proofs.Copies.{next_entry}
use Rattle.ifdb_catalog.proofs.catalog.copy.copied_map.Goals as goal

pub loop-name-preserved : goal.loop-name-preserved
loop-name-preserved g c =
    let value = c.in-Some.value.now in
    let exact : IfOk c.copy.result (λ y. y ≡ value) = c.requires.exact value c.copy.result (says_at g.F.Fn c.copy.ensures refl) in
    let same : c.in_ok-value.value ≡ value = subst (λ r. IfOk r (λ y. y ≡ value)) c.in_ok-value.was exact in
    next_entry c.args.map.now.entries c.loop-name.copies.entries c.loop-name.name-iterator c.in-Some.name.now value c.next.new.self
    c.iter-name-items.ensures.unique c.loop-name.invariant c.in-Some.ensures.steps c.put.new.map.entries c.in_ok-name.name c.in_ok-value.value
    c.in_ok-put.ensures c.in_ok-name.ensures same
