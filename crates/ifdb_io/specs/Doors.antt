-- decides: the service
-- What the calls of a door and a site do to the links and doors that are told.
use Rattle.std.specs.Prelude.{◌≡◌, List, [], ◌∷◌, ◌++◌, Bool, true, false, Option, None, Some, Result, Ok, Err, ⊤}

-- what is told stays as it was
abbrev pub Stays : {A : Type 0} → Option A → Option A → Type 0
Stays None new = ⊤
Stays (Some told) new = new ≡ Some told

-- these were the first of the list, which lost them
abbrev pub LosesFirst : {A : Type 0} → Option (List A) → Option (List A) → List A → Type 0
LosesFirst None new items = ⊤
LosesFirst (Some told) None items = ⊥
LosesFirst (Some told) (Some left) items = told ≡ items ++ left

-- this was put at the end of the list
abbrev pub GainsLast : {A : Type 0} → Option (List A) → Option (List A) → A → Type 0
GainsLast None new item = ⊤
GainsLast (Some told) new item = new ≡ Some (told ++ item ∷ [])

-- the list is this one
abbrev pub Becomes : {A : Type 0} → Option (List A) → Option (List A) → List A → Type 0
Becomes None new items = ⊤
Becomes (Some told) new items = new ≡ Some items

-- a connection was the first link to come, no connection comes where there is none, and a failure takes none
abbrev pub TakesNext : {L E : Type 0} → Option (List L) → Option (List L) → Result (Option L) E → Type 0
TakesNext None new result = ⊤
TakesNext (Some told) new (Ok (Some link)) = LosesFirst (Some told) new (link ∷ [])
TakesNext (Some told) new (Ok None) = (told ≡ []) × (new ≡ Some [])
TakesNext (Some told) new (Err fault) = new ≡ Some told

-- the answer of a door is a connection
abbrev pub is_link : {L E : Type 0} → Result (Option L) E → Bool
is_link (Ok (Some link)) = true
is_link (Ok None) = false
is_link (Err fault) = false

-- the answer of a door is that no connection comes any more
abbrev pub is_end : {L E : Type 0} → Result (Option L) E → Bool
is_end (Ok (Some link)) = false
is_end (Ok None) = true
is_end (Err fault) = false
