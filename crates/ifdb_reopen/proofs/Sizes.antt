-- What lies behind the front of one disk at two moments lies behind as many bytes.
use Rattle.std.proofs.Common.{◌≡◌, ℕ, ◌≤◌, List, [], ◌∷◌, ◌++◌, ◌∙◌, length, map, drop, refl, sym, ap, arith, append_assoc, length-append, length-drop}
use Rattle.std.specs.Prelude.{Option, Some, None}
use Rattle.std.proofs.lemmas.List.{drop_at, length-map, length-take, map-append}
use Rattle.ifdb_disk.specs.Images.{Shown}
use Rattle.ifdb_disk.specs.Clock.{Clock, Leaves}
use Rattle.ifdb_log.specs.Behind.{behind, front_of, moments, shown_behind, since, Fronted}

-- of two lists that are one, tails of one length are one
tail_same : {X : Type 0} (a b x y : List X) → a ++ x ≡ b ++ y → length x ≡ length y → x ≡ y
tail_same a b x y e size =
    let same : length b ≡ length a = omega (arith, ap length e, length-append a x, length-append b y, size) in
    sym (drop_at a x (length a) refl) ∙ ap (drop (length a)) e ∙ drop_at b y (length a) same

-- the front was there when it began
front_within : (n : ℕ) (begun : Option Clock) (c : Clock) → Fronted n begun (Some c) → n ≤ length (front_of n begun)
front_within n begun c fronted =
    let stands = fronted.1.0 in
    omega (arith, stands.1.1.0, ap length stands.1.1.1.0, length-take n c.now.bytes)

abbrev head_or : {X : Type 0} → X → List X → X
head_or d [] = d
head_or d (z ∷ zs) = z

pub head_same : {X : Type 0} (a b : X) (x y : List X) → a ∷ x ≡ b ∷ y → a ≡ b
head_same a b x y e = ap (head_or a) e

pub sizes_same : (m n : ℕ) (begun : Option Clock) (c : Clock) (u : Option Clock) (P : List ℕ → Type 0) → Fronted m begun (Some c) → Fronted n begun u → Leaves (behind m (Some c)) (behind n u) P → m ≡ n
sizes_same m n begun c None P first last leaves = absurd leaves
sizes_same m n None c (Some d) P first last leaves =
    let a = front_within m None c first in
    let b = front_within n None d last in
    omega (arith, a, b)
sizes_same m n (Some b) c (Some d) P first last leaves =
    let f = shown_behind m in
    let g = shown_behind n in
    let base = moments (Some b) in
    let old = since (Some b) (Some c) in
    let new = since (Some b) (Some d) in
    let both : map g new ++ map g base ≡ (leaves.0 ++ map f old) ++ map f base =
    sym (map-append g new base) ∙ sym (ap (map g) last.0) ∙ leaves.1 ∙ ap (λ (l : List Shown). leaves.0 ++ map f l) first.0
    ∙ ap (λ (l : List Shown). leaves.0 ++ l) (map-append f old base) ∙ sym (append_assoc leaves.0 (map f old) (map f base)) in
    let tails = tail_same (map g new) (leaves.0 ++ map f old) (map g base) (map f base) both (length-map base g ∙ sym (length-map base f)) in
    let here : g b.now ≡ f b.now = head_same (g b.now) (f b.now) (map g b.before) (map f b.before) tails in
    let sizes = ap (λ (s : Shown). length s.bytes) here in
    let a = front_within m (Some b) c first in
    let z = front_within n (Some b) d last in
    omega (arith, sizes, a, z, length-drop n b.now.bytes, length-drop m b.now.bytes, length-take m b.now.bytes, length-take n b.now.bytes)
