-- A front goes on standing, and what ties the images.
use Rattle.std.proofs.Common.{◌≡◌, ℕ, ◌+◌, ◌-◌, ◌≤◌, ◌<◌, ◌&&◌, ◌||◌, inl, inr, true, false, List, [], ◌∷◌, ◌++◌, length, take, drop, refl, sym, ap, subst, ◌∙◌, arith, append_assoc, length-append, length-drop}
use Rattle.std.specs.Prelude.{Option, Some, None, map, nat_le, nat_lt}
use Rattle.std.specs.List.{AllByRecursion}
use Rattle.std.proofs.lemmas.List.{length-take, length-map, map-append, take-take, take-append-le, drop-append-le, take-append-drop, take_at, drop_at, drop-drop, drop-take, get_or-take, ext_get_or, append_cancel_right}
use Rattle.std.proofs.lemmas.Bool.Decides.{nat_tests}
use Rattle.ifdb_disk.specs.Images.{Range, Shown, IsImage, is_loose, overwritten, written, synced}
use Rattle.ifdb_disk.specs.Clock.{Clock, Leaves, MayHaveWritten, Now, goes}
use Rattle.ifdb_log.specs.Behind.{AreBehind, BehindImages, BehindLeaves, Fronted, HasBehind, IsBoth, Stands, behind, front_of, moments, range_behind, shown_behind, since}
use Rattle.ifdb_log.specs.Fronted.{image_behind}

-- ---- it goes on standing

from_states : (n : ℕ) (begun u : Option Clock) (states : List Shown) → moments u ≡ states ++ moments begun → Now u (Stands n (front_of n begun)) → AllByRecursion (Stands n (front_of n begun)) states → Fronted n begun u
from_states n begun u states split now all =
    let size : length states ≡ length (moments u) - length (moments begun) = omega (arith, ap length split, length-append states (moments begun)) in
    let is : since begun u ≡ states = ap (take (length (moments u) - length (moments begun))) split ∙ take_at states (moments begun) (length (moments u) - length (moments begun)) size in
    (split ∙ ap (λ (l : List Shown). l ++ moments begun) (sym is), (now, subst (AllByRecursion (Stands n (front_of n begun))) (sym is) all))

pub fronted_next : (n : ℕ) (begun t : Option Clock) (f : Shown → Shown) → Fronted n begun t → ((c : Clock) → t ≡ Some c → Stands n (front_of n begun) c.now → Stands n (front_of n begun) (f c.now)) → Fronted n begun (goes f t)
fronted_next n begun None f fronted step = fronted
fronted_next n begun (Some c) f fronted step =
    let stands = step c refl fronted.1.0 in
    from_states n begun (goes f (Some c)) (f c.now ∷ since begun (Some c)) (ap (λ (l : List Shown). f c.now ∷ l) fronted.0) stands (stands, fronted.1.1)

stands_written : (n : ℕ) (front : List ℕ) (s : Shown) (at : ℕ) (bs : List ℕ) → n ≤ at → Stands n front s → Stands n front (written at bs s)
stands_written n front s at bs le stands =
    let within : n ≤ length s.bytes = stands.1.1.0 in
    let first : n ≤ length (take at s.bytes) = omega (arith, length-take at s.bytes, le, within) in
    let long : n ≤ length (overwritten s.bytes at bs) = omega (arith, length-append (take at s.bytes) (bs ++ drop (at + length bs) s.bytes), first) in (
      stands.0,
      (
        stands.1.0,
        (
          long,
          (
            take-append-le n (take at s.bytes) (bs ++ drop (at + length bs) s.bytes) first ∙ take-take n at s.bytes le ∙ stands.1.1.1.0,
            (first, stands.1.1.1.1),
          ),
        ),
      ),
    )

stands_synced : (n : ℕ) (front : List ℕ) (s : Shown) → Stands n front s → Stands n front (synced s)
stands_synced n front s stands = (stands.1.1.0, (stands.1.1.1.0, (stands.1.1.0, (stands.1.1.1.0, tt))))

pub fronted_written : (n : ℕ) (begun t : Option Clock) (at : ℕ) (bs : List ℕ) → n ≤ at → Fronted n begun t → Fronted n begun (goes (written at bs) t)
fronted_written n begun t at bs le fronted = fronted_next n begun t (written at bs) fronted (λ c is stands. stands_written n (front_of n begun) c.now at bs le stands)

pub fronted_synced : (n : ℕ) (begun t : Option Clock) → Fronted n begun t → Fronted n begun (goes synced t)
fronted_synced n begun t fronted = fronted_next n begun t synced fronted (λ c is stands. stands_synced n (front_of n begun) c.now stands)

pub fronted_torn : (n : ℕ) (begun t u : Option Clock) (at most : ℕ) → n ≤ at → Fronted n begun t → MayHaveWritten at most t u → Fronted n begun u
fronted_torn n begun t u at most le fronted (inl same) = subst (Fronted n begun) (sym same) fronted
fronted_torn n begun t u at most le fronted (inr some) = subst (Fronted n begun) (sym some.2) (fronted_written n begun t at some.0 le fronted)

-- ---- a write lies behind the front

bytes_written : (n : ℕ) (b : List ℕ) (at : ℕ) (bs : List ℕ) → n ≤ length b → drop n (overwritten b (n + at) bs) ≡ overwritten (drop n b) at bs
bytes_written n b at bs within =
    let rest = bs ++ drop (n + at + length bs) b in
    let first : n ≤ length (take (n + at) b) = omega (arith, length-take (n + at) b, within) in
    let place : n + at + length bs ≡ n + (at + length bs) = omega arith in
    drop-append-le n (take (n + at) b) rest first
    ∙ ap (λ (l : List ℕ). l ++ rest) (drop-take n at b)
    ∙ ap (λ (l : List ℕ). take at (drop n b) ++ (bs ++ l)) (ap (λ k. drop k b) place ∙ sym (drop-drop (at + length bs) n b))

range_written : (n : ℕ) (b : List ℕ) (at size : ℕ) → n ≤ length b → range_behind n (record { at = length (take (n + at) b); len = size }) ≡ record { at = length (take at (drop n b)); len = size }
range_written n b at size within =
    let place : length (take (n + at) b) - n ≡ length (take at (drop n b)) = omega (arith, length-take (n + at) b, length-take at (drop n b), length-drop n b, within) in
    let long : size - (n - length (take (n + at) b)) ≡ size = omega (arith, length-take (n + at) b, within) in
    λ i. record { at = place i; len = long i }

shown_written : (n : ℕ) (s : Shown) (at : ℕ) (bs : List ℕ) → n ≤ length s.bytes → shown_behind n (written (n + at) bs s) ≡ written at bs (shown_behind n s)
shown_written n s at bs within = λ i. record {
  bytes = bytes_written n s.bytes at bs within i;
  synced = drop n s.synced;
  loose = range_written n s.bytes at (length bs) within i ∷ map (range_behind n) s.loose;
}

pub behind_written : (n : ℕ) (begun t : Option Clock) (at place : ℕ) (bs : List ℕ) → Fronted n begun t → place ≡ at + n → behind n (goes (written place bs) t) ≡ goes (written at bs) (behind n t)
behind_written n begun None at place bs fronted is = refl
behind_written n begun (Some c) at place bs fronted is =
    let along : place ≡ n + at = omega (arith, is) in
    ap (λ k. behind n (goes (written k bs) (Some c))) along
    ∙ ap (λ (s : Shown). Some (record { now = s; before = shown_behind n c.now ∷ map (shown_behind n) c.before })) (shown_written n c.now at bs fronted.1.0.1.1.0)

pub behind_torn : (n : ℕ) (begun t u : Option Clock) (at place most : ℕ) → Fronted n begun t → place ≡ at + n → MayHaveWritten place most t u → MayHaveWritten at most (behind n t) (behind n u)
behind_torn n begun t u at place most fronted is (inl same) = inl (ap (behind n) same)
behind_torn n begun t u at place most fronted is (inr some) = inr (some.0, some.1, ap (behind n) some.2 ∙ behind_written n begun t at place some.0 fronted is)

-- ---- the images

free_front : (n : ℕ) (ranges : List Range) (i : ℕ) → AreBehind n ranges → i < n → is_loose ranges i ≡ false
free_front n [] i all lt = refl
free_front n (r ∷ ranges) i all lt =
    let before : nat_le r.at i ≡ false = grind (arith, nat_tests, all.0, lt) in
    λ k. (before k && nat_lt i (r.at + r.len)) || free_front n ranges i all.1 lt k

pub image_both : (n : ℕ) (front : List ℕ) (s : Shown) (image : List ℕ) → Stands n front s → IsImage s image → IsBoth n front s image
image_both n front s image stands is =
    let long : n ≤ length image = omega (arith, stands.0, is.no_shorter) in
    let head : take n image ≡ take n s.synced = ext_get_or 0 (take n image) (take n s.synced) (omega (arith, length-take n image, length-take n s.synced, long, stands.0)) (λ i lt.
    let below : i < n = omega (arith, lt, length-take n image) in
    get_or-take n image i 0 below ∙ is.rest i (omega (arith, below, long)) (free_front n s.loose i stands.1.1.1.1 below) ∙ sym (get_or-take n s.synced i 0 below)) in
    (drop n image, sym (take-append-drop n image) ∙ ap (λ (l : List ℕ). l ++ drop n image) (head ∙ stands.1.0), image_behind n s image is)

all_both : (n : ℕ) (front : List ℕ) (states : List Shown) → AllByRecursion (Stands n front) states → AllByRecursion (λ s. (image : List ℕ) → IsImage s image → IsBoth n front s image) states
all_both n front [] all = tt
all_both n front (s ∷ states) all = ((λ image is. image_both n front s image all.0 is), all_both n front states all.1)

now_both : (n : ℕ) (front : List ℕ) (t : Option Clock) → Now t (Stands n front) → Now t (λ s. (image : List ℕ) → IsImage s image → IsBoth n front s image)
now_both n front None stands = tt
now_both n front (Some c) stands = λ image is. image_both n front c.now image stands is

pub images : BehindImages
images n begun t fronted = (now_both n (front_of n begun) t fronted.1.0, all_both n (front_of n begun) (since begun t) fronted.1.1)

-- ---- what a crash leaves behind the front, that it leaves of the whole

all_split : (P : Shown → Type 0) (xs ys : List Shown) → AllByRecursion P (xs ++ ys) → AllByRecursion P xs × AllByRecursion P ys
all_split P [] ys all = (tt, all)
all_split P (x ∷ xs) ys all = let rest = all_split P xs ys all.1 in ((all.0, rest.0), rest.1)

first_range : List Range → Range
first_range [] = record { at = 0; len = 0 }
first_range (r ∷ ranges) = r

ranges_same : (n : ℕ) (xs ys : List Range) → AreBehind n xs → AreBehind n ys → map (range_behind n) xs ≡ map (range_behind n) ys → xs ≡ ys
ranges_same n [] [] behind_a behind_b same = refl
ranges_same n [] (b ∷ ys) behind_a behind_b same = cc same
ranges_same n (a ∷ xs) [] behind_a behind_b same = cc same
ranges_same n (a ∷ xs) (b ∷ ys) behind_a behind_b same =
    let first : range_behind n a ≡ range_behind n b = cc same in
    let others : map (range_behind n) xs ≡ map (range_behind n) ys = cc same in
    let ats : a.at - n ≡ b.at - n = ap (λ (r : Range). r.at) first in
    let lens : a.len - (n - a.at) ≡ b.len - (n - b.at) = ap (λ (r : Range). r.len) first in
    let at : a.at ≡ b.at = omega (arith, ats, behind_a.0, behind_b.0) in
    let len : a.len ≡ b.len = omega (arith, lens, behind_a.0, behind_b.0) in
    let tail = ranges_same n xs ys behind_a.1 behind_b.1 others in
    λ i. record { at = at i; len = len i } ∷ tail i

bytes_same : (n : ℕ) (front a b : List ℕ) → take n a ≡ front → take n b ≡ front → drop n a ≡ drop n b → a ≡ b
bytes_same n front a b first second same =
    sym (take-append-drop n a) ∙ ap (λ (l : List ℕ). l ++ drop n a) (first ∙ sym second) ∙ ap (λ (l : List ℕ). take n b ++ l) same ∙ take-append-drop n b

shown_same : (n : ℕ) (front : List ℕ) (a b : Shown) → Stands n front a → Stands n front b → shown_behind n a ≡ shown_behind n b → a ≡ b
shown_same n front a b stands_a stands_b same =
    let bytes = bytes_same n front a.bytes b.bytes stands_a.1.1.1.0 stands_b.1.1.1.0 (ap (λ (s : Shown). s.bytes) same) in
    let synced = bytes_same n front a.synced b.synced stands_a.1.0 stands_b.1.0 (ap (λ (s : Shown). s.synced) same) in
    let loose = ranges_same n a.loose b.loose stands_a.1.1.1.1 stands_b.1.1.1.1 (ap (λ (s : Shown). s.loose) same) in
    λ i. record { bytes = bytes i; synced = synced i; loose = loose i }

states_same : (n : ℕ) (front : List ℕ) (xs ys : List Shown) → AllByRecursion (Stands n front) xs → AllByRecursion (Stands n front) ys → map (shown_behind n) xs ≡ map (shown_behind n) ys → xs ≡ ys
states_same n front [] [] all_a all_b same = refl
states_same n front [] (b ∷ ys) all_a all_b same = cc same
states_same n front (a ∷ xs) [] all_a all_b same = cc same
states_same n front (a ∷ xs) (b ∷ ys) all_a all_b same =
    let first : shown_behind n a ≡ shown_behind n b = cc same in
    let others : map (shown_behind n) xs ≡ map (shown_behind n) ys = cc same in
    let head = shown_same n front a b all_a.0 all_b.0 first in
    let tail = states_same n front xs ys all_a.1 all_b.1 others in
    λ i. head i ∷ tail i

module _ (n : ℕ) (front : List ℕ) (P : List ℕ → Type 0) where
  all_leave : (states : List Shown) → AllByRecursion (Stands n front) states → AllByRecursion (λ s. (image : List ℕ) → IsImage s image → P image) (map (shown_behind n) states)
      → AllByRecursion (λ s. (image : List ℕ) → IsImage s image → HasBehind front P image) states
  all_leave [] stand all = tt
  all_leave (s ∷ states) stand all = (
    (λ image is.
        let both = image_both n front s image stand.0 is in
        (both.0, both.1, all.0 both.0 both.2)),
    all_leave states stand.1 all.1,
  )

  -- the later moments are some, and then the earlier ones
  later : (old new base : List Shown) (states : List Shown) → AllByRecursion (Stands n front) old → AllByRecursion (Stands n front) new
      → map (shown_behind n) (new ++ base) ≡ states ++ map (shown_behind n) (old ++ base)
      → AllByRecursion (λ s. (image : List ℕ) → IsImage s image → P image) states
      → (between : List Shown) × (new ++ base ≡ between ++ (old ++ base)) × AllByRecursion (λ s. (image : List ℕ) → IsImage s image → HasBehind front P image) between
  later old new base states stand_old stand_new same all =
      let f = shown_behind n in
      let left = map-append f new base in
      let right = map-append f old base in
      let cut : map f new ≡ states ++ map f old =
      append_cancel_right (map f new) (states ++ map f old) (map f base) (sym left ∙ same ∙ ap (λ (l : List Shown). states ++ l) right ∙ sym (append_assoc states (map f old) (map f base))) in
      let k = length states in
      let long : length new ≡ k + length old = omega (arith, ap length cut, length-map new f, length-map old f, length-append states (map f old)) in
      let between = take k new in
      let rest = drop k new in
      let whole : between ++ rest ≡ new = take-append-drop k new in
      let both : map f between ++ map f rest ≡ states ++ map f old = sym (map-append f between rest) ∙ ap (map f) whole ∙ cut in
      let size : length (map f between) ≡ k = omega (arith, length-map between f, length-take k new, long) in
      let firsts : map f between ≡ states = sym (take_at (map f between) (map f rest) k size) ∙ ap (take k) both ∙ take_at states (map f old) k refl in
      let lasts : map f rest ≡ map f old = sym (drop_at (map f between) (map f rest) k size) ∙ ap (drop k) both ∙ drop_at states (map f old) k refl in
      let stand = all_split (Stands n front) between rest (subst (AllByRecursion (Stands n front)) (sym whole) stand_new) in
      let older : rest ≡ old = states_same n front rest old stand.1 stand_old lasts in (
        between,
        ap (λ (l : List Shown). l ++ base) (sym whole ∙ ap (λ (l : List Shown). between ++ l) older) ∙ append_assoc between old base,
        all_leave between stand.0 (subst (AllByRecursion (λ s. (image : List ℕ) → IsImage s image → P image)) (sym firsts) all),
      )

pub leaves_behind : (n : ℕ) (begun t u : Option Clock) (P : List ℕ → Type 0) → Fronted n begun t → Fronted n begun u → Leaves (behind n t) (behind n u) P → Leaves t u (HasBehind (front_of n begun) P)
leaves_behind n begun None u P old new leaves = tt
leaves_behind n begun (Some c) None P old new leaves = absurd leaves
leaves_behind n begun (Some c) (Some d) P old new leaves =
    let f = shown_behind n in
    let base = moments begun in
    let same : map f (since begun (Some d) ++ base) ≡ leaves.0 ++ map f (since begun (Some c) ++ base) =
    sym (ap (map f) new.0) ∙ leaves.1 ∙ ap (λ (l : List Shown). leaves.0 ++ map f l) old.0 in
    let found = later n (front_of n begun) P (since begun (Some c)) (since begun (Some d)) base leaves.0 old.1.1 new.1.1 same leaves.2 in
    (found.0, new.0 ∙ found.1 ∙ ap (λ (l : List Shown). found.0 ++ l) (sym old.0), found.2)

pub leaves_tested : BehindLeaves
leaves_tested n begun t u test old new leaves = leaves_behind n begun t u (λ rest. test rest ≡ true) old new leaves
