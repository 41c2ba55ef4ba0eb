-- What a disk shows behind its first bytes, and what it is that these stand.
use Rattle.std.specs.Prelude.{◌≡◌, ℕ, ◌-◌, ◌≤◌, Bool, true, List, [], ◌∷◌, ◌++◌, length, take, drop, map, Option, Some, None, ⊤}
use Rattle.std.specs.List.{AllByRecursion}
use Rattle.ifdb_disk.specs.Images.{Range, Shown, IsImage, settled}
use Rattle.ifdb_disk.specs.Clock.{Clock, Leaves, Now}

-- ---- behind the first n bytes

-- what of a range lies there
abbrev pub range_behind : ℕ → Range → Range
range_behind n r = record { at = r.at - n; len = r.len - (n - r.at) }

-- what a disk shows there
abbrev pub shown_behind : ℕ → Shown → Shown
shown_behind n s = record { bytes = drop n s.bytes; synced = drop n s.synced; loose = map (range_behind n) s.loose }

-- what it shows there now, and at each moment before
abbrev pub behind : ℕ → Option Clock → Option Clock
behind n None = None
behind n (Some c) = Some (record { now = shown_behind n c.now; before = map (shown_behind n) c.before })

-- ---- the first bytes stand

-- all ranges lie behind the first n bytes
abbrev pub AreBehind : ℕ → List Range → Type 0
AreBehind n [] = ⊤
AreBehind n (r ∷ ranges) = (n ≤ r.at) × AreBehind n ranges

-- at one moment the first n bytes are these, they are synced, and nothing is loose in them
abbrev pub Stands : ℕ → List ℕ → Shown → Type 0
Stands n front s = (n ≤ length s.synced) × ((take n s.synced ≡ front) × ((n ≤ length s.bytes) × ((take n s.bytes ≡ front) × AreBehind n s.loose)))

-- all moments of a disk, the last one first
abbrev pub moments : Option Clock → List Shown
moments None = []
moments (Some c) = c.now ∷ c.before

-- those of them since it had begun
abbrev pub since : Option Clock → Option Clock → List Shown
since begun t = take (length (moments t) - length (moments begun)) (moments t)

-- the first n bytes that it had then
abbrev pub front_of : ℕ → Option Clock → List ℕ
front_of n None = []
front_of n (Some c) = take n c.now.bytes

-- since it had begun, the first n bytes have stood at every moment, as they were then
abbrev pub Fronted : ℕ → Option Clock → Option Clock → Type 0
Fronted n begun t = (moments t ≡ since begun t ++ moments begun) × (Now t (Stands n (front_of n begun)) × AllByRecursion (Stands n (front_of n begun)) (since begun t))

-- the disk is synced, and has at least n bytes
abbrev pub HasFront : ℕ → Option Clock → Type 0
HasFront n t = Now t (λ s. (s ≡ settled s.bytes) × (n ≤ length s.bytes))

-- ---- what ties the images

-- an image is the front, and behind it an image of what lies there
abbrev pub IsBoth : ℕ → List ℕ → Shown → List ℕ → Type 0
IsBoth n front s image = (rest : List ℕ) × (image ≡ front ++ rest) × IsImage (shown_behind n s) rest

-- At every moment since the front stands, each image of the disk is the front, and behind it an image of what lies there.
abbrev pub BehindImages : Type 0
BehindImages = (n : ℕ) (begun t : Option Clock) → Fronted n begun t
    → Now t (λ s. (image : List ℕ) → IsImage s image → IsBoth n (front_of n begun) s image)
    × AllByRecursion (λ s. (image : List ℕ) → IsImage s image → IsBoth n (front_of n begun) s image) (since begun t)

-- some bytes are the front, and behind it lies what has P
abbrev pub HasBehind : List ℕ → (List ℕ → Type 0) → List ℕ → Type 0
HasBehind front P bytes = (rest : List ℕ) × (bytes ≡ front ++ rest) × P rest

-- What a crash leaves of what lies behind the front, that it leaves of the disk behind the front: at each moment since then, whatever
-- the test.
abbrev pub BehindLeaves : Type 0
BehindLeaves = (n : ℕ) (begun t u : Option Clock) (test : List ℕ → Bool) → Fronted n begun t → Fronted n begun u
    → Leaves (behind n t) (behind n u) (λ rest. test rest ≡ true) → Leaves t u (HasBehind (front_of n begun) (λ rest. test rest ≡ true))
