-- How far a test holds from the front of a list.
use Rattle.std.specs.Prelude.{ℕ, suc, zero, Bool, true, List, [], ◌∷◌, not, if◌then◌else◌}
use Rattle.std.specs.List.{list_all}

-- how many items at the front pass
abbrev pub reach : {X : Type 0} → (X → Bool) → List X → ℕ
reach p [] = zero
reach p (x ∷ xs) = if p x then suc (reach p xs) else zero

-- none passes behind one that doesn't
abbrev pub is_parted : {X : Type 0} → (X → Bool) → List X → Bool
is_parted p [] = true
is_parted p (x ∷ xs) = if p x then is_parted p xs else list_all (λ y. not (p y)) xs

-- the items from the first that doesn't pass on
abbrev pub skip : {X : Type 0} → (X → Bool) → List X → List X
skip p [] = []
skip p (x ∷ xs) = if p x then skip p xs else x ∷ xs
