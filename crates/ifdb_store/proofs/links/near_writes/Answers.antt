use Rattle.std.proofs.Common.{subst}
use Rattle.ifdb_row.specs.Writes.{is_fitting}
use Rattle.ifdb_row.proofs.TableWalks.{is_true}
use Rattle.ifdb_store.specs.Links.{BringsLinks}
use Rattle.ifdb_store.proofs.Linking.{follows_one}
use Rattle.ifdb_store.proofs.links.near_writes.Goals as goal

pub returns : goal.returns
returns c =
    let w = c.args.write.now in
    let us = c.put_links.new.writes in
    follows_one w us (is_true (is_fitting w.slot w.row) c.requires.fitting) c.in_ok-put_links.ensures.others
    (subst (λ ps. BringsLinks w.slot ps us) c.parents_written.ensures c.in_ok-put_links.ensures.links)
