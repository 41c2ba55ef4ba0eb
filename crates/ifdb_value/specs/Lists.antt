-- Lists that may be left out.
use Rattle.std.specs.Prelude.{List, [], Option, Some, None}

-- the list, or the empty one
abbrev pub listed : {X : Type 0} → Option (List X) → List X
listed None = []
listed (Some xs) = xs
