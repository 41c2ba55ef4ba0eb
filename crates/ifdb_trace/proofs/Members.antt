-- Members of lists that are mapped, filtered and joined.
use Rattle.std.proofs.Common.{◌≡◌, Bool, true, false, List, [], ◌∷◌, ◌++◌, map, refl, sym, ap, subst, ◌∙◌, cond, inl, inr}
use Rattle.std.specs.Prelude.{◌⊎◌, filter, flat_map}
use Rattle.std.proofs.lemmas.Bool.{false≢true}

-- a member of a list
abbrev pub In : {X : Type 0} → List X → X → Type 0
In [] y = ⊥
In (x ∷ xs) y = (x ≡ y) ⊎ In xs y

pub in_left : {X : Type 0} (xs ys : List X) (y : X) → In xs y → In (xs ++ ys) y
in_left [] ys y h = absurd h
in_left (x ∷ xs) ys y (inl e) = inl e
in_left (x ∷ xs) ys y (inr h) = inr (in_left xs ys y h)

pub in_right : {X : Type 0} (xs ys : List X) (y : X) → In ys y → In (xs ++ ys) y
in_right [] ys y h = h
in_right (x ∷ xs) ys y h = inr (in_right xs ys y h)

pub in_either : {X : Type 0} (xs ys : List X) (y : X) → In (xs ++ ys) y → In xs y ⊎ In ys y
in_either [] ys y h = inr h
in_either (x ∷ xs) ys y (inl e) = inl (inl e)
in_either (x ∷ xs) ys y (inr h) = elim (in_either xs ys y h) [ inl a ↦ inl (inr a) | inr b ↦ inr b ]

pub record From {X Y : Type 0} (f : X → List Y) (xs : List X) (y : Y) : Type 0 where
  pub x : X
  pub has : In xs x
  pub gives : In (f x) y

pub flat_from : {X Y : Type 0} (f : X → List Y) (xs : List X) (y : Y) → In (flat_map f xs) y → From f xs y
flat_from f [] y h = absurd h
flat_from f (x ∷ xs) y h = elim (in_either (f x) (flat_map f xs) y h) [
  | inl a ↦ record { x = x; has = inl refl; gives = a }
  | inr b ↦ let r = flat_from f xs y b in record { x = r.x; has = inr r.has; gives = r.gives }
]

pub flat_to : {X Y : Type 0} (f : X → List Y) (xs : List X) (x : X) (y : Y) → In xs x → In (f x) y → In (flat_map f xs) y
flat_to f [] x y h g = absurd h
flat_to f (z ∷ xs) x y (inl e) g = in_left (f z) (flat_map f xs) y (subst (λ u. In (f u) y) (sym e) g)
flat_to f (z ∷ xs) x y (inr h) g = in_right (f z) (flat_map f xs) y (flat_to f xs x y h g)

pub record Mapped {X Y : Type 0} (f : X → Y) (xs : List X) (y : Y) : Type 0 where
  pub x : X
  pub has : In xs x
  pub is : f x ≡ y

pub map_from : {X Y : Type 0} (f : X → Y) (xs : List X) (y : Y) → In (map f xs) y → Mapped f xs y
map_from f [] y h = absurd h
map_from f (x ∷ xs) y (inl e) = record { x = x; has = inl refl; is = e }
map_from f (x ∷ xs) y (inr h) = let r = map_from f xs y h in record { x = r.x; has = inr r.has; is = r.is }

pub map_to : {X Y : Type 0} (f : X → Y) (xs : List X) (x : X) → In xs x → In (map f xs) (f x)
map_to f [] x h = absurd h
map_to f (z ∷ xs) x (inl e) = inl (ap f e)
map_to f (z ∷ xs) x (inr h) = inr (map_to f xs x h)

pub filter_from : {X : Type 0} (p : X → Bool) (xs : List X) (y : X) → In (filter p xs) y → In xs y × (p y ≡ true)
filter_from p [] y h = absurd h
filter_from p (x ∷ xs) y h = by (p x) refl h (filter_from p xs y) where
  by : (b : Bool) → p x ≡ b → In (cond b (x ∷ filter p xs) (filter p xs)) y → (In (filter p xs) y → In xs y × (p y ≡ true)) → In (x ∷ xs) y × (p y ≡ true)
  by true e (inl i) rest = (inl i, ap p (sym i) ∙ e)
  by true e (inr i) rest = let r = rest i in (inr r.0, r.1)
  by false e i rest = let r = rest i in (inr r.0, r.1)

pub filter_to : {X : Type 0} (p : X → Bool) (xs : List X) (y : X) → In xs y → p y ≡ true → In (filter p xs) y
filter_to p [] y h q = absurd h
filter_to p (x ∷ xs) y (inl e) q = by (p x) (ap p e ∙ q) where
  by : (b : Bool) → b ≡ true → In (cond b (x ∷ filter p xs) (filter p xs)) y
  by true i = inl e
  by false i = absurd (false≢true i)
filter_to p (x ∷ xs) y (inr h) q = by (p x) (filter_to p xs y h q) where
  by : (b : Bool) → In (filter p xs) y → In (cond b (x ∷ filter p xs) (filter p xs)) y
  by true i = inr i
  by false i = i
