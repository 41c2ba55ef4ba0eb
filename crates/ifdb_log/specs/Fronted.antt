-- What a struct that keeps a front states of its disk: that what it keeps has one proof, and what a read gives.
use Rattle.std.specs.Prelude.{◌≡◌, ℕ, ◌+◌, ◌-◌, ◌<◌, ◌&&◌, ◌||◌, nat_le, nat_lt, List, [], ◌∷◌, ◌++◌, length, take, drop, map, Option, Some, None}
use Rattle.std.specs.List.{AllByRecursion}
use Rattle.std.specs.Coded.{×_prop, Unit-prop, le_prop}
use Rattle.std.proofs.Common.{refl, sym, ◌∙◌, arith, length-drop}
use Rattle.std.proofs.Props.{props}
use Rattle.std.proofs.lemmas.List.{get_or-drop}
use Rattle.std.proofs.lemmas.Bool.Decides.{nat_tests}
use Rattle.ifdb_disk.specs.Images.{Range, Shown, IsImage, is_loose}
use Rattle.ifdb_disk.specs.Clock.{Clock, Now}
use Rattle.ifdb_log.specs.Behind.{AreBehind, Fronted, Stands, behind, front_of, moments, range_behind, shown_behind, since}

-- ---- what is kept has one proof

are_behind_prop : (n : ℕ) (ranges : List Range) → IsProp (AreBehind n ranges)
are_behind_prop n [] = Unit-prop
are_behind_prop n (r ∷ ranges) = ×_prop le_prop (are_behind_prop n ranges)

bytes_prop : (a b : List ℕ) → IsProp (a ≡ b)
bytes_prop a b = hlevel props

stands_prop : (n : ℕ) (front : List ℕ) (s : Shown) → IsProp (Stands n front s)
stands_prop n front s = ×_prop le_prop (×_prop (bytes_prop (take n s.synced) front) (×_prop le_prop (×_prop (bytes_prop (take n s.bytes) front) (are_behind_prop n s.loose))))

all_prop : (n : ℕ) (front : List ℕ) (states : List Shown) → IsProp (AllByRecursion (Stands n front) states)
all_prop n front [] = Unit-prop
all_prop n front (s ∷ states) = ×_prop (stands_prop n front s) (all_prop n front states)

now_prop : (n : ℕ) (front : List ℕ) (t : Option Clock) → IsProp (Now t (Stands n front))
now_prop n front None = Unit-prop
now_prop n front (Some c) = stands_prop n front c.now

moments_prop : (a b : List Shown) → IsProp (a ≡ b)
moments_prop a b = hlevel props

pub fronted_prop : (n : ℕ) (begun t : Option Clock) → IsProp (Fronted n begun t)
fronted_prop n begun t = ×_prop (moments_prop (moments t) (since begun t ++ moments begun)) (×_prop (now_prop n (front_of n begun) t) (all_prop n (front_of n begun) (since begun t)))

-- ---- the images behind the front

range_loose : (n : ℕ) (r : Range) (i : ℕ) → (nat_le (r.at - n) i && nat_lt i (r.at - n + (r.len - (n - r.at)))) ≡ (nat_le r.at (n + i) && nat_lt (n + i) (r.at + r.len))
range_loose n r i = grind (arith, nat_tests)

pub loose_behind : (n : ℕ) (ranges : List Range) (i : ℕ) → is_loose (map (range_behind n) ranges) i ≡ is_loose ranges (n + i)
loose_behind n [] i = refl
loose_behind n (r ∷ ranges) i = λ k. range_loose n r i k || loose_behind n ranges i k

pub image_behind : (n : ℕ) (s : Shown) (image : List ℕ) → IsImage s image → IsImage (shown_behind n s) (drop n image)
image_behind n s image is = record {
  no_shorter = omega (arith, length-drop n s.synced, length-drop n image, is.no_shorter);
  no_longer = omega (arith, length-drop n s.bytes, length-drop n image, is.no_longer);
  rest = λ i lt fixed.
      let place : n + i < length image = omega (arith, lt, length-drop n image) in
      get_or-drop n image i 0 ∙ is.rest (n + i) place (sym (loose_behind n s.loose i) ∙ fixed) ∙ sym (get_or-drop n s.synced i 0);
}

pub present_behind : (n : ℕ) (t : Option Clock) → Now t (λ s. IsImage s s.bytes) → Now (behind n t) (λ s. IsImage s s.bytes)
present_behind n None present = tt
present_behind n (Some c) present = image_behind n c.now c.now.bytes present
