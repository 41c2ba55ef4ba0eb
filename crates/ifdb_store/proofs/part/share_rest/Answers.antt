use Rattle.std.proofs.Common.{◌≡◌, ◌∙◌, ◌++◌, ap, drop, arith, rules}
use Rattle.std.specs.List.{list_all}
use Rattle.std.proofs.lemmas.Bool.Decides.{nat_tests}
use Rattle.std.proofs.lemmas.List.Folds.{list_all-append}
use Rattle.ifdb_store.proofs.WriteLemmas.{all_drop}
use Rattle.ifdb_store.proofs.part.share_rest.Goals as goal

pub returns-clause-parts : goal.returns-clause-parts
returns-clause-parts g c =
    let new : c.add_shared.new.out.items ≡ c.args.out.now.items ++ drop c.args.from c.args.parts.now = search (rules, c.split_at.ensures.back) in
    let both = list_all-append g.P.Part.is_part c.args.out.now.items (drop c.args.from c.args.parts.now) in
    let back = all_drop g.P.Part.is_part c.args.from c.args.parts.now c.requires.parts in
    ap (list_all g.P.Part.is_part) new ∙ grind (arith, nat_tests)
