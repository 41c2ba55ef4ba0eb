-- How a text is shown to be in a language: by its parts.
use Rattle.std.proofs.Common.{◌≡◌, ℕ, zero, suc, List, [], ◌∷◌, ◌++◌, refl, sym, ap, subst, ◌∙◌, append_assoc, inl, inr}
use Rattle.ifdb_syntax.specs.declared.lexeme.Lexeme.{Lexeme}
use Rattle.ifdb_syntax.specs.Words.{Lexemes, kind}
use Rattle.ifdb_syntax.specs.Lang.{Lang, Then, token, rounds, repeat, separated, next_member}
use Rattle.ifdb_syntax.specs.canonical.Tokens as canon

pub append-nil : {X : Type 0} (u : List X) → u ++ [] ≡ u
append-nil [] = refl
append-nil (x ∷ u) = ap (λ (z : List _). x ∷ z) (append-nil u)

-- a text in another form
pub along : {A : Type 0} (l : Lang A) {u v : Lexemes} (a : A) → u ≡ v → l u a → l v a
along l a e h = subst (λ (z : Lexemes). l z a) e h

pub along_value : {A : Type 0} (l : Lang A) (u : Lexemes) {a b : A} → a ≡ b → l u a → l u b
along_value {A} l u e h = subst (λ (z : A). l u z) e h

-- one part, and then another
pub then_in : {A B : Type 0} (l : Lang A) (m : A → Lang B) (u v : Lexemes) (a : A) (b : B) → l u a → m a v b → Then l m (u ++ v) b
then_in l m u v a b h k = record { front = u; back = v; value = a; parts = refl; first = h; second = k }

-- the last part
pub last_in : {A B : Type 0} (l : Lang A) (m : A → Lang B) (u : Lexemes) (a : A) (b : B) → l u a → m a [] b → Then l m u b
last_in l m u a b h k = record { front = u; back = []; value = a; parts = sym (append-nil u); first = h; second = k }

-- a lexeme, and then a text
pub token_in : {B : Type 0} (k : ℕ) (x : Lexeme) (m : Unit {0} → Lang B) (v : Lexemes) (b : B) → kind x ≡ k → token k (x ∷ []) tt → m tt v b → Then (token k) m (x ∷ v) b
token_in k x m v b e i h = record { front = x ∷ []; back = v; value = tt; parts = refl; first = i; second = h }

-- ---- repetition

pub rounds_more : {X : Type 0} (step : X → Lang X) (n : ℕ) (x y z : X) (u v : Lexemes) → step x u y → rounds step n y v z → rounds step (suc n) x (u ++ v) z
rounds_more step n x y z u v h k = inl (then_in (step x) (rounds step n) u v y z h k)

pub rounds_last : {X : Type 0} (step : X → Lang X) (n : ℕ) (x y z : X) (u v : Lexemes) → rounds step n x u y → step y v z → rounds step (suc n) x (u ++ v) z
rounds_last {X} step zero x y z u v h k =
    let at_x : step x v z = subst (λ (w : X). step w v z) h.1 k in
    let e : v ≡ u ++ v = ap (λ (w : Lexemes). w ++ v) (sym h.0) in
    inl (along (λ w c. Then (step x) (rounds step zero) w c) z e (last_in (step x) (rounds step zero) v z z at_x (refl, refl)))
rounds_last {X} step (suc n) x y z u v (inl w) k =
    let more = rounds_last step n w.value y z w.back v w.second k in
    let e : w.front ++ (w.back ++ v) ≡ u ++ v = sym (append_assoc w.front w.back v) ∙ ap (λ (q : Lexemes). q ++ v) (sym w.parts) in
    inl (along (λ q c. Then (step x) (rounds step (suc n)) q c) z e (then_in (step x) (rounds step (suc n)) w.front (w.back ++ v) w.value z w.first more))
rounds_last {X} step (suc n) x y z u v (inr h) k =
    let at_x : step x v z = subst (λ (w : X). step w v z) h.1 k in
    let e : v ≡ u ++ v = ap (λ (w : Lexemes). w ++ v) (sym h.0) in
    inl (along (λ w c. Then (step x) (rounds step (suc n)) w c) z e (last_in (step x) (rounds step (suc n)) v z z at_x (inr (refl, refl))))

-- something, then rounds, and one more round
pub one_more : {X : Type 0} (l : Lang X) (step : X → Lang X) (u v : Lexemes) (x y : X) → Then l (repeat step) u x → step x v y → Then l (repeat step) (u ++ v) y
one_more l step u v x y w h =
    let more = rounds_last step w.second.0 w.value x y w.back v w.second.1 h in
    let e : w.front ++ (w.back ++ v) ≡ u ++ v = sym (append_assoc w.front w.back v) ∙ ap (λ (q : Lexemes). q ++ v) (sym w.parts) in
    along (λ q c. Then l (repeat step) q c) y e (then_in l (repeat step) w.front (w.back ++ v) w.value y w.first (suc w.second.0, more))

pub no_more : {X : Type 0} (l : Lang X) (step : X → Lang X) (u : Lexemes) (x : X) → l u x → Then l (repeat step) u x
no_more l step u x h = last_in l (repeat step) u x x h (zero, (refl, refl))

-- ---- lists

-- each member is spelled by its lexemes
abbrev pub EachIn : {A : Type 0} → Lang A → (A → Lexemes) → List A → Type 0
EachIn l f [] = Unit {0}
EachIn l f (x ∷ xs) = l (f x) x × EachIn l f xs

module _ {A : Type 0} (k : ℕ) (x : Lexeme) (is_k : token k (x ∷ []) tt) (l : Lang A) (f : A → Lexemes) where
  step_in : (found : List A) (a : A) → l (f a) a → next_member k l found (x ∷ f a) (found ++ a ∷ [])
  step_in found a h = then_in (token k) _ (x ∷ []) (f a) tt (found ++ a ∷ []) is_k (last_in l _ (f a) a (found ++ a ∷ []) h (refl, refl))

  members_in : (found xs : List A) → EachIn l f xs → repeat (next_member k l) found (canon.behind x f xs) (found ++ xs)
  members_in found [] each = (zero, (refl, append-nil found))
  members_in found (a ∷ xs) each =
      let more = members_in (found ++ a ∷ []) xs each.1 in
      let e : (found ++ a ∷ []) ++ xs ≡ found ++ (a ∷ xs) = append_assoc found (a ∷ []) xs in (
        suc more.0,
        along_value (rounds (next_member k l) (suc more.0) found) ((x ∷ f a) ++ canon.behind x f xs) e
            (rounds_more (next_member k l) more.0 found (found ++ a ∷ []) ((found ++ a ∷ []) ++ xs) (x ∷ f a) (canon.behind x f xs) (step_in found a each.0) more.1),
      )

  pub separated_in : (a : A) (xs : List A) → l (f a) a → EachIn l f xs → separated k l (canon.separated x f (a ∷ xs)) (a ∷ xs)
  separated_in a xs h each = then_in l _ (f a) (canon.behind x f xs) a (a ∷ xs) h (members_in (a ∷ []) xs each)
