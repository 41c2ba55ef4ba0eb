use Rattle.std.proofs.Common.{◌≡◌, ◌∙◌, ap, get_or}
use Rattle.ifdb_row.specs.ByReference.{row_of}
use Rattle.ifdb_row.proofs.TableWalks.{is_true}
use Rattle.ifdb_store.specs.Links.{child_slot, is_link}
use Rattle.ifdb_store.proofs.Walking.{first_is}
use Rattle.ifdb_store.proofs.links.child_of.Goals as goal

pub returns : goal.returns
returns c =
    let x = c.index-parents-0.result in
    let link = row_of c.args.link in
    let at : x ≡ get_or link.refs 0 x = c.index-parents-0.is ∙ ap (λ ps. get_or ps 0 x) c.parents.ensures in
    c.by_ref.ensures ∙ first_is (child_slot link.slot) link.refs x (is_true (is_link link) c.requires) at
