use Rattle.std.proofs.Common.{◌≡◌, arith, true}
use Rattle.std.proofs.lemmas.Bool.Decides.{nat_tests}
use Rattle.ifdb_row.specs.Content.{rising}
use Rattle.ifdb_row.proofs.TableWalks.{is_true}
use Rattle.ifdb_store.specs.Pages.{is_full_node, is_limb, is_tree, limb_rows, rows_of}
use Rattle.ifdb_store.proofs.InPlace.{put_parts, put_rises}
use Rattle.ifdb_store.proofs.tree.put_in_limbs.Goals as goal

pub returns-clause-tree : goal.returns-clause-tree
returns-clause-tree c =
    let limbs = c.args.limbs.now in
    let more = c.put_in.new.parts in
    let e = c.put_in.ensures in
    let tree : is_tree limbs ≡ true = is_true _ c.requires.tree in
    let up : rising (rows_of limbs) ≡ true = grind (arith, nat_tests, tree) in
    let all = put_parts limb_rows is_limb is_full_node limbs more tree e.many (is_true _ e.parts) e.full (put_rises (rows_of limbs) (rows_of more) c.args.writes.now c.put_in.result e.rows (is_true _ c.requires.fitting) up) in
    grind (arith, nat_tests, all)
