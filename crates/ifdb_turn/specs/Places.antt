-- decides: the service
-- Places of entries in a history, as rising lists.
use Rattle.std.specs.Prelude.{◌≡◌, ℕ, ◌+◌, ◌≤◌, ◌==◌, nat_lt, if◌then◌else◌, List, [], ◌∷◌}

-- 1 where two numbers are equal
abbrev pub one_if : ℕ → ℕ → ℕ
one_if k n = if k == n then 1 else 0

-- 1 where a number is below another
abbrev pub one_below : ℕ → ℕ → ℕ
one_below k n = if nat_lt k n then 1 else 0

-- how often a place is in a list
abbrev pub times : ℕ → List ℕ → ℕ
times k [] = 0
times k (n ∷ ns) = one_if k n + times k ns

-- a list rises, from some number at least `low` on
abbrev pub RisesFrom : ℕ → List ℕ → Type 0
RisesFrom low [] = Unit {0}
RisesFrom low (n ∷ ns) = (low ≤ n) × RisesFrom (n + 1) ns

-- no place of a list is the number `end` or more
abbrev pub LiesBelow : ℕ → List ℕ → Type 0
LiesBelow end ns = (k : ℕ) → end ≤ k → times k ns ≡ 0

-- a place put into a rising list
abbrev pub put_in : ℕ → List ℕ → List ℕ
put_in k [] = k ∷ []
put_in k (n ∷ ns) = if nat_lt k n then k ∷ n ∷ ns else n ∷ put_in k ns

-- two rising lists as one
abbrev pub merge : List ℕ → List ℕ → List ℕ
merge xs [] = xs
merge xs (k ∷ ks) = merge (put_in k xs) ks
