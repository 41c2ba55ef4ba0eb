use Rattle.std.proofs.Common.{◌≡◌, ℕ, ◌<◌, List, [], ◌∷◌, ◌++◌, sym, ap, ◌∙◌, subst, rules, arith}
use Rattle.ifdb_turn.specs.Places.{one_if, times}
use Rattle.ifdb_turn.proofs.PlaceLemmas.{one_if-same, times-snoc}
use Rattle.test_turn.proofs.tests.open_book.Goals as goal

times_last : (k n : ℕ) (ns : List ℕ) → k ≡ n → 0 < times k (ns ++ n ∷ [])
times_last k n ns is = let more = times-snoc k ns n in let one : one_if k n ≡ 1 = ap (one_if k) (sym is) ∙ one_if-same k in omega arith

pub returns-clause-own : goal.returns-clause-own
returns-clause-own g c = let own = subst (λ ns. 0 < times c.object-diary.result.now.pages ns) (sym c.finish.ensures.places) (times_last _ _ _ (search rules)) in search rules
