use Rattle.std.proofs.Common.{rules, ◌≡◌, ◌≢◌, ◌∷◌, ap, ◌∙◌, arith}
use Rattle.std.proofs.lemmas.Grind.{common_steps}
use Rattle.ifdb_log.specs.Title.{title_rest}
use Rattle.ifdb_log.proofs.Titles.{front_title}
use Rattle.ifdb_log.proofs.title.heading_of.Goals as goal

pub returns-then-eq : goal.returns-then-eq
returns-then-eq c = λ bytes is sized.
    let first = c.in-Some.first.now in
    let rest = c.in-Some.rest.now in
    let begins : c.args.front.now ≡ first ∷ rest = search rules in
    let others : rest ≡ title_rest = first_of (search rules, grind (arith, common_steps)) in
    let nonzero : first ≢ 0 = first_of (search rules, grind (arith, common_steps)) in
    front_title bytes c.args.front.now c.args.size is sized first nonzero (begins ∙ ap (λ l. first ∷ l) others)
