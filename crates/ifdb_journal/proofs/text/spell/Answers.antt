use Rattle.std.proofs.Common.{◌≡◌, ◌++◌, ◌∷◌, [], ℕ, List, ap, ◌∙◌, append_assoc}
use Rattle.ifdb_journal.proofs.text.spell.Goals as goal

gathered : (old k s n line end : List ℕ) → ((((old ++ k) ++ s) ++ n) ++ line) ++ end ≡ old ++ ((k ++ (s ++ (n ++ line))) ++ end)
gathered old k s n line end =
    ap (λ (l : List ℕ). l ++ end) (append_assoc ((old ++ k) ++ s) n line ∙ append_assoc (old ++ k) s (n ++ line) ∙ append_assoc old k (s ++ (n ++ line)))
    ∙ append_assoc old (k ++ (s ++ (n ++ line))) end

pub returns-clause-items : goal.returns-clause-items
returns-clause-items c =
    let first = c.add.ensures.items ∙ ap (λ b. c.args.text.now.items ++ b ∷ []) c.byte_of.ensures in
    let second = c.add-2.ensures.items ∙ (λ i. first i ++ c.to_be_bytes.ensures i) in
    let third = c.add-3.ensures.items ∙ (λ i. second i ++ c.to_be_bytes-2.ensures i) in
    let fourth = c.add-4.ensures.items ∙ ap (λ (l : List ℕ). l ++ c.args.line.now) third in
    c.add-5.ensures.items ∙ ap (λ (l : List ℕ). l ++ 0 ∷ []) fourth ∙ gathered c.args.text.now.items (_ ∷ []) _ _ c.args.line.now (0 ∷ [])
