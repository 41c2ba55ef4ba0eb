-- Facts of one view and of each view, when one is set or a new one comes behind the others; and the stages of a pass.
use Rattle.std.proofs.Common.{◌≡◌, ◌≢◌, ℕ, zero, suc, ◌<◌, Bool, true, false, List, [], ◌∷◌, ◌++◌, length, set, sym, ap, ◌∙◌, subst, ⊎_elim, arith}
use mathlib.Core.Logic.{dite}
use mathlib.Core.Option.{some, some-injective, some-ne-none}
use native.Mathlib.Decide.{ℕ_discrete}
use lib.ListN.{get_elem?}
use Rattle.atomic_table.proofs.Lists.{at_set, set_here, set_else, at_snoc, at_longer}
use Rattle.ifdb_turn.specs.declared.view.Stage.{Stage}
use Rattle.ifdb_turn.specs.declared.view.Stage.TheVariants.{Opening, Idle, Waiting, InTurn}
use Rattle.ifdb_turn.specs.Views.{Somewhere, HasTicket, HasTurn, IsOutOfTurn}

module _ {V : Type 0} where
  -- what holds of the view that is set and of the others holds of each
  pub each_set : (P : ℕ → V → Type 0) (l : List V) (i : ℕ) (w : V) → P i w
      → ((j : ℕ) (v : V) → j ≢ i → get_elem? l j ≡ some v → P j v) → (j : ℕ) (v : V) → get_elem? (set l i w) j ≡ some v → P j v
  each_set P l i w mine others j v e = ⊎_elim (λ (t : (j ≡ i) × (w ≡ v)). subst (λ (x : ℕ × V). P x.0 x.1)
      (λ k. (sym t.0 k, t.1 k)) mine)
      (λ (t : (j ≢ i) × (get_elem? l j ≡ some v)). others j v t.0 t.1) (at_set l i j w v e)

  pub below : (l : List V) (i : ℕ) (v : V) → get_elem? l i ≡ some v → i < length l
  below [] i v e = absurd (some-ne-none v (sym e))
  below (x ∷ xs) zero v e = omega arith
  below (x ∷ xs) (suc i) v e = let r = below xs i v e in omega arith

  pub here : (l : List V) (i : ℕ) (v w : V) → get_elem? l i ≡ some v → get_elem? (set l i w) i ≡ some w
  here l i v w e = set_here l i w (below l i v e)

  pub else : (l : List V) (i j : ℕ) (v w : V) → j ≢ i → get_elem? l j ≡ some v → get_elem? (set l i w) j ≡ some v
  else l i j v w ne e = set_else l i j w ne ∙ e

  pub one : (l : List V) (i j : ℕ) (v w : V) → i ≡ j → get_elem? l i ≡ some v → get_elem? l j ≡ some w → v ≡ w
  one l i j v w is a b = some-injective v w (sym a ∙ (ap (get_elem? l) is ∙ b))

  pub find_set : (P : V → Type 0) (l : List V) (i : ℕ) (v w : V) → get_elem? l i ≡ some v → (P v → P w) → Somewhere l P
      → Somewhere (set l i w) P
  find_set P l i v w at next p = dite (ℕ_discrete p.0 i) (λ is. (
    i,
    w,
    here l i v w at,
    next (subst P (one l p.0 i p.1 v is p.2 at) p.3),
  )) (λ ne. (p.0, p.1, else l i p.0 p.1 w ne p.2, p.3))

  pub each_snoc : (P : V → Type 0) (l : List V) (w : V) → P w → ((j : ℕ) (v : V) → get_elem? l j ≡ some v → P v) → (j : ℕ) (v : V)
      → get_elem? (l ++ w ∷ []) j ≡ some v → P v
  each_snoc P l w mine others j v e = ⊎_elim (λ (t : get_elem? l j ≡ some v). others j v t)
      (λ (t : w ≡ v). subst P t mine) (at_snoc l w v j e)

  pub find_snoc : (P : V → Type 0) (l : List V) (w : V) → Somewhere l P → Somewhere (l ++ w ∷ []) P
  find_snoc P l w p = (p.0, p.1, at_longer l (w ∷ []) p.0 p.1 p.2, p.3)

  -- a fact of two views, where the last one has it with none
  pub pair_snoc : (P : V → Type 0) (l : List V) (w : V) → (P w → ⊥)
      → ((i j : ℕ) (u x : V) → get_elem? l i ≡ some u → get_elem? l j ≡ some x → P u → P x → i ≡ j)
      → (i j : ℕ) (u x : V) → get_elem? (l ++ w ∷ []) i ≡ some u → get_elem? (l ++ w ∷ []) j ≡ some x → P u → P x → i ≡ j
  pair_snoc P l w none_ old i j u x a b p q = ⊎_elim
      (λ (a' : get_elem? l i ≡ some u). ⊎_elim (λ (b' : get_elem? l j ≡ some x). old i j u x a' b' p q)
      (λ (t : w ≡ x). absurd (none_ (subst P (sym t) q))) (at_snoc l w x j b))
      (λ (t : w ≡ u). absurd (none_ (subst P (sym t) p))) (at_snoc l w u i a)

module _ {E : Type 0} where
  pub no_ticket : (n : ℕ) (h : Stage E) → h ≡ Idle → ¬ HasTicket n h
  no_ticket n h is = subst (λ (z : Stage E). ¬ HasTicket n z) (sym is) (λ x. x)

  pub idle : (h : Stage E) → h ≡ Idle → IsOutOfTurn h
  idle h is = subst IsOutOfTurn (sym is) tt

  pub idle_waits : (n : ℕ) (h : Stage E) → h ≡ Waiting n → IsOutOfTurn h
  idle_waits n h is = subst IsOutOfTurn (sym is) tt

  pub no_turn : (n : ℕ) (used : Bool) (log : List E) (h : Stage E) → IsOutOfTurn h → h ≡ InTurn n used log → ⊥
  no_turn n used log h idle is = subst IsOutOfTurn is idle

  abbrev pub number : ℕ → Stage E → ℕ
  number d Opening = d
  number d Idle = d
  number d (Waiting k) = k
  number d (InTurn k used whole) = k

  abbrev pub used_of : Stage E → Bool
  used_of (InTurn k used whole) = used
  used_of _ = false

  abbrev pub whole_of : Stage E → List E
  whole_of (InTurn k used whole) = whole
  whole_of _ = []

  pub idle_turn : (n : ℕ) (h : Stage E) → IsOutOfTurn h → HasTurn n h → ⊥
  idle_turn n Opening i t = t
  idle_turn n Idle i t = t
  idle_turn n (Waiting k) i t = t
  idle_turn n (InTurn k used whole) i t = i

  abbrev pub IsLater : Stage E → Type 0
  IsLater Opening = ⊥
  IsLater _ = Unit {0}

  pub not_first : (h : Stage E) → h ≡ Opening → IsLater h → ⊥
  not_first h e = subst (λ (z : Stage E). IsLater z → ⊥) (sym e) (λ x. x)

pub no_truth : false ≡ true → ⊥
no_truth e = subst (λ b. elim b as (λ _. Type 0) [ true ↦ ⊥ | false ↦ Unit {0} ]) e tt
