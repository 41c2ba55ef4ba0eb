use Rattle.std.proofs.Common.{◌≡◌, ◌∙◌, ◌++◌, ◌∷◌, [], ap, false, rules}
use Rattle.std.proofs.lemmas.List.{append_assoc}
use Rattle.ifdb_store.specs.Pages.{are_joined, may_join}
use Rattle.ifdb_store.proofs.Joining.{joined_more, joined_wider}
use Rattle.ifdb_store.proofs.join.add_pair.Goals as goal

pub returns-in_ok-push-clause-joined : goal.returns-in_ok-push-clause-joined
returns-in_ok-push-clause-joined c =
    let new : c.push.new.self.items ≡ c.args.all.now.items ++ (c.args.last ++ c.args.page) ∷ [] = search rules in
    ap are_joined new ∙ joined_wider c.args.all.now.items c.args.last c.args.page c.requires.joined

pub returns-in_ok-push-3-clause-joined : goal.returns-in_ok-push-3-clause-joined
returns-in_ok-push-3-clause-joined c =
    let first : c.push-else-may_join.new.self.items ≡ c.args.all.now.items ++ c.args.last ∷ [] = search rules in
    let second : c.push-else-may_join-2.new.self.items ≡ c.push-else-may_join.new.self.items ++ c.args.page ∷ [] = search rules in
    let apart : may_join c.args.last c.args.page ≡ false = search rules in
    ap are_joined (second ∙ (ap (λ ps. ps ++ c.args.page ∷ []) first ∙ append_assoc c.args.all.now.items (c.args.last ∷ []) (c.args.page ∷ [])))
    ∙ joined_more c.args.all.now.items c.args.last c.args.page c.requires.joined apart
