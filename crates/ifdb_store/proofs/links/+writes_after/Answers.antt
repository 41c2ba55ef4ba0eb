use Rattle.std.proofs.Common.{◌≡◌, ◌∙◌, ◌++◌, ◌/◌, ap, drop, length, subst, sym, take, true}
use Rattle.std.proofs.lemmas.List.{take-append-drop}
use Rattle.ifdb_row.specs.declared.write.Write.{Write}
use Rattle.ifdb_row.specs.Writes.{are_fitting, is_fitting}
use Rattle.ifdb_row.proofs.TableWalks.{is_true}
use Rattle.ifdb_store.specs.Links.{Follows}
use Rattle.ifdb_store.proofs.Linking.{follows_both}
use Rattle.ifdb_store.proofs.WriteLemmas.{all_take}
use Rattle.ifdb_store.proofs.links.+writes_after.Goals as goal

pub returns-in_ok-merge-in_default : goal.returns-in_ok-merge-in_default
returns-in_ok-merge-in_default n c =
    let ws = c.args.writes.now in
    let k = length ws / 2 in
    let front = c.split_at.result.0.now in
    let back = c.split_at.result.1.now in
    let first : front ≡ take k ws = c.split_at.ensures.front in
    let rest : back ≡ drop k ws = c.split_at.ensures.back in
    let whole : front ++ back ≡ ws = ap (λ xs. xs ++ back) first ∙ (ap (λ ys. take k ws ++ ys) rest ∙ take-append-drop k ws) in
    let fits : are_fitting front ≡ true = ap are_fitting first ∙ all_take (λ (w : Write). is_fitting w.slot w.row) k ws (is_true (are_fitting ws) c.requires) in
    let both = follows_both front back c.in_ok-links-in_default.links c.in_ok-writes_after-in_default.field-0 fits c.in_ok-links-in_default.ensures c.in_ok-writes_after-in_default.ensures in
    subst (λ xs. Follows xs c.merge.new.self) whole (subst (Follows (front ++ back)) (sym c.in_ok-merge-in_default.ensures.ok) both)
