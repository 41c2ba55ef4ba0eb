use Rattle.std.proofs.Common.{arith, List, ℕ, [], ◌≡◌, subst, sym, ◌∙◌}
use Rattle.std.proofs.lemmas.List.{nil_from_length}
use Rattle.std.proofs.lemmas.Result.{IfOk-weaker}
use Rattle.ifdb_authority.specs.Search.{HasAbove}
use Rattle.ifdb_authority.proofs.AboveLemmas.{ancestors_are_above, ancestors_are_all, exact_answer}
use Rattle.ifdb_authority.proofs.authority.Authority.holds.Goals as goal

pub returns-then-is_empty-clause-value : goal.returns-then-is_empty-clause-value
returns-then-is_empty-clause-value c =
    let P : List ℕ → Type 0 = λ above. HasAbove c.args.tags.now c.args.tag above in
    let empty : c.ancestors-above.result.now ≡ [] = nil_from_length _ (grind (arith, c.is_empty.ensures, c.if-is_empty.true)) in
    let has_all = subst P empty (ancestors_are_all c.args.tags.now c.args.tag c.ancestors-above.result.now c.ancestors-above.ensures.above) in
    sym c.if-branch.false ∙ exact_answer c.args.tags.now c.args.self.now c.args.p c.args.tag [] c.in_ok-is_held.field-0 has_all c.in_ok-is_held.ensures

pub is_held-requires-2-clause-above : goal.is_held-requires-2-clause-above
is_held-requires-2-clause-above c = ancestors_are_above c.args.tags.now c.args.tag c.ancestors-above.result.now c.ancestors-above.ensures.above

pub returns-clause-value : goal.returns-clause-value
returns-clause-value c =
    let has_all = ancestors_are_all c.args.tags.now c.args.tag c.ancestors-above.result.now c.ancestors-above.ensures.above in
    IfOk-weaker c.is_held-2.result _ _ (λ held. exact_answer c.args.tags.now c.args.self.now c.args.p c.args.tag c.ancestors-above.result.now held has_all) c.is_held-2.ensures
