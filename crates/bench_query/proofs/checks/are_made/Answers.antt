use Rattle.std.proofs.Common.{◌≡◌, ℕ, false, List, [], ◌∷◌, ◌∙◌, length, refl, sym, ap, arith}
use Rattle.std.specs.Prelude.{◌==◌, ◌&&◌, nat_lt}
use Rattle.std.specs.List.{list_all}
use Rattle.std.proofs.lemmas.Bool.Decides.{nat_tests}
use Rattle.ifdb_label.specs.Tags.{are_made}
use Rattle.bench_query.proofs.checks.are_made.Goals as goal

-- no tag is made where none are
none_made : (list : List ℕ) → (length list == 0) ≡ are_made 0 list
none_made [] = refl
none_made (t ∷ list) =
    let some : (length (t ∷ list) == 0) ≡ false = grind (arith, nat_tests) in
    let no : nat_lt t 0 ≡ false = grind (arith, nat_tests) in
    some ∙ sym (ap (λ b. b && list_all (λ u. nat_lt u 0) list) no)

pub returns : goal.returns
returns c = c.is_empty.ensures ∙ none_made c.args.list.now
