-- Entries of others that a pass has come to see name none of its own places, however often more were added.
use Rattle.std.proofs.Common.{◌≡◌, ℕ, ◌<◌, ◌≤◌, zero, suc, List, [], ◌∷◌, ◌++◌, length, sym, subst, arith, lt_of_not-le}
use mathlib.Core.List.{IsPrefix}
use mathlib.Core.Option.{some}
use lib.ListN.{get_elem?}
use native.Mathlib.Decide.{dec_le}
use Rattle.ifdb_turn.proofs.ViewLemmas.{below}
use Rattle.ifdb_turn.specs.Histories.{NoRootsFrom}

module _ {E : Type 0} (root : E → ℕ) where
  shorter : (h rest : List E) (i : ℕ) (e : E) → i < length h → get_elem? (h ++ rest) i ≡ some e → get_elem? h i ≡ some e
  shorter [] rest i e lt at = absurd (omega (arith, lt))
  shorter (x ∷ h) rest zero e lt at = at
  shorter (x ∷ h) rest (suc i) e lt at = shorter h rest i e (omega (arith, lt)) at

  -- nothing was added
  pub away_none : (h : List E) (own : List ℕ) → NoRootsFrom root h (length h) own
  away_none h own i e le at = let lt = below h i e at in absurd (omega (arith, le, lt))

  -- more was added
  pub away_on : (h m k : List E) (own : List ℕ) → IsPrefix m k → NoRootsFrom root m (length h) own → NoRootsFrom root k (length m) own → NoRootsFrom root k (length h) own
  away_on h m k own front a b i e le at = by (dec_le (length m) i) where
    by : Dec (length m ≤ i) → Rattle.ifdb_turn.specs.Places.times (root e) own ≡ 0
    by (yes past) = b i e past at
    by (no before) = a i e le (shorter m front.0 i e (lt_of_not-le before) (subst (λ l. get_elem? l i ≡ some e) (sym front.1) at))
