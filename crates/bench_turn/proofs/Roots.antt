-- A place in a list of places that grows at its end.
use Rattle.std.proofs.Common.{◌≡◌, ℕ, ◌+◌, ◌<◌, List, [], ◌∷◌, ◌++◌, sym, ap, ◌∙◌, arith}
use Rattle.ifdb_turn.specs.Places.{one_if, times}
use Rattle.ifdb_turn.proofs.PlaceLemmas.{one_if-same, times-snoc}

-- the last place is in the list
pub times_last : (k n : ℕ) (ns : List ℕ) → k ≡ n → 0 < times k (ns ++ n ∷ [])
times_last k n ns is =
    let more = times-snoc k ns n in let one : one_if k n ≡ 1 = ap (one_if k) (sym is) ∙ one_if-same k in omega arith

-- a place stays in the list
pub times_more : (k n : ℕ) (ns : List ℕ) → 0 < times k ns → 0 < times k (ns ++ n ∷ [])
times_more k n ns own = let more = times-snoc k ns n in omega arith
