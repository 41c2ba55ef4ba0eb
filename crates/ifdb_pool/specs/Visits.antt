-- decides: the service
-- Connections that came, were served and went back.
use Rattle.std.specs.Prelude.{◌≡◌, List, [], ◌∷◌, ◌++◌, Option, None, Some, ⊤}

-- a connection, as it came and as it went back
pub record Visit (L : Type 0) : Type 0 where
  pub came : L
  pub went : L

-- these visits, one after another, lead from one host to the other
abbrev pub Serves : {H L : Type 0} → (H → L → H → L → Type 0) → H → List (Visit L) → H → Type 0
Serves serves host [] last = host ≡ last
Serves {H} serves host (visit ∷ visits) last = (next : H) × serves host visit.came next visit.went × Serves serves next visits last

-- these were put at the end of the list, in order
abbrev pub GainsAll : {A : Type 0} → Option (List A) → Option (List A) → List A → Type 0
GainsAll None new items = ⊤
GainsAll (Some told) new items = new ≡ Some (told ++ items)
