use Rattle.std.proofs.Common.{refl, subst, sym}
use Rattle.ifdb_row.proofs.TableWalks.{is_true}
use Rattle.ifdb_store.specs.Links.{LeavesOthers, is_near}
use Rattle.ifdb_store.proofs.Linking.{gone_put}
use Rattle.ifdb_store.proofs.links.put_gone.Goals as goal

pub loop-parent-preserved : goal.loop-parent-preserved
loop-parent-preserved c =
    let s = c.args.child.now in
    subst (LeavesOthers s) (sym c.in_ok-put.ensures.ok)
    (gone_put c.print_of.result s _ c.loop-parent.writes (is_true (is_near s) c.requires.near) c.in_ok-slot.ensures refl c.loop-parent.invariant)
