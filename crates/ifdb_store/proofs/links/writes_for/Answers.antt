use Rattle.std.proofs.Common.{◌∷◌, [], ◌∙◌, ap, subst, sym}
use Rattle.ifdb_row.specs.Writes.{is_fitting}
use Rattle.ifdb_row.proofs.TableWalks.{is_true}
use Rattle.ifdb_store.specs.Links.{Follows, is_near}
use Rattle.ifdb_store.proofs.Linking.{follows_far}
use Rattle.ifdb_store.proofs.links.writes_for.Goals as goal

pub returns-else-is_near : goal.returns-else-is_near
returns-else-is_near c =
    let w = c.args.write.now in
    subst (Follows (w ∷ [])) (sym c.new.ensures) (follows_far w (is_true (is_fitting w.slot w.row) c.requires) (ap is_near (sym c.by_ref.ensures) ∙ sym c.if-is_near.ensures))
