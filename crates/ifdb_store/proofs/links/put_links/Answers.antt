use Rattle.std.proofs.Common.{◌≡◌, ◌∙◌, ◌∷◌, ◌++◌, [], Some, ap, subst, sym, take}
use Rattle.std.proofs.lemmas.List.{take_more}
use Rattle.ifdb_row.specs.declared.row.Row.{Row}
use Rattle.ifdb_row.proofs.TableWalks.{is_true}
use Rattle.ifdb_store.specs.Links.{BringsLinks, LeavesOthers, is_near, link, link_slot, print_of}
use Rattle.ifdb_store.proofs.Linking.{link_brings, link_others}
use Rattle.ifdb_store.proofs.links.put_links.Goals as goal

pub loop-parent-preserved : goal.loop-parent-preserved
loop-parent-preserved c =
    let s = c.args.child.now in
    let q = c.parent-item.result in
    let us = c.loop-parent.writes in
    let u = c.in_ok-of_row.field-0 in
    let near = is_true (is_near s) c.requires.near in
    let row : c.in_ok-row.row ≡ link (print_of q) s = c.in_ok-row.ensures ∙ (ap (λ n. link n s) c.print_of.ensures ∙ ap (λ p. link (print_of p) s) c.by_ref.ensures) in
    let at : u.slot ≡ link_slot (print_of q) s = c.in_ok-of_row.ensures.slot ∙ ap (λ (r : Row). r.slot) row in
    let new : u.row ≡ Some (link (print_of q) s) = c.in_ok-of_row.ensures.row ∙ ap Some row in
    let more = take_more c.args.parents.now c.loop-parent.parent-index q c.loop-parent-test.true ∙ ap (λ p. take c.loop-parent.parent-index c.args.parents.now ++ p ∷ []) (sym c.parent-item.is) in
    record {
      others = subst (LeavesOthers s) (sym c.in_ok-put.ensures.ok) (link_others s q u us near at new c.loop-parent.invariant.others);
      links =
          subst (λ ps. BringsLinks s ps c.put.new.self) (sym more)
          (subst (BringsLinks s (take c.loop-parent.parent-index c.args.parents.now ++ q ∷ [])) (sym c.in_ok-put.ensures.ok)
          (link_brings s q u us near at new c.loop-parent.invariant.others (take c.loop-parent.parent-index c.args.parents.now) c.loop-parent.invariant.links));
    }
