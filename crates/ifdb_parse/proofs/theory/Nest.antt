-- A rule rises with the rules in it, and a parser agrees where those in it agree on shorter texts.
use Rattle.std.proofs.Common.{◌≡◌, ℕ, zero, suc, ◌≤◌, Bool, [], ◌∷◌, length, Option, Some, None, Ok, Err, refl, ap, ◌∙◌, arith, inl, inr}
use Rattle.ifdb_syntax.specs.declared.lexeme.Lexeme.{Lexeme}
use Rattle.ifdb_syntax.specs.Words.{Lexemes}
use Rattle.ifdb_parse.specs.theory.Kinds.{Kinds, sees}
use Rattle.ifdb_syntax.specs.Lang.{Lang, Then, nothing, ◌or◌, rounds, repeat}
use Rattle.ifdb_parse.specs.theory.Parser.{Outcome, Parser, and_then, pure, take, taken, choose, branch, rounds_by, repeat_by}
use Rattle.ifdb_parse.specs.theory.Reads.{Reads}
use Rattle.ifdb_parse.proofs.theory.Combine.{done_is}
use Rattle.ifdb_parse.proofs.theory.Rounds.{no_longer}

abbrev pub Below : {A : Type 0} → Lang A → Lang A → Type 0
Below {A} l l' = (u : Lexemes) (a : A) → l u a → l' u a

pub then_rises : {A B : Type 0} {l l' : Lang A} {m m' : A → Lang B} → Below l l' → ((a : A) → Below (m a) (m' a)) → Below (λ u b. Then l m u b) (λ u b. Then l' m' u b)
then_rises f g u b h = record { front = h.front; back = h.back; value = h.value; parts = h.parts; first = f h.front h.value h.first; second = g h.value h.back b h.second }

pub or_rises : {A : Type 0} {l l' m m' : Lang A} → Below l l' → Below m m' → Below (l or m) (l' or m')
or_rises f g u a (inl h) = inl (f u a h)
or_rises f g u a (inr h) = inr (g u a h)

pub same : {A : Type 0} (l : Lang A) → Below l l
same l u a h = h

pub repeat_rises : {X : Type 0} {l l' : X → Lang X} → ((x : X) → Below (l x) (l' x)) → (x : X) → Below (repeat l x) (repeat l' x)
repeat_rises {l = l} {l' = l'} f x u a h = (h.0, go h.0 x u a h.1)
  where
    go : (n : ℕ) (x : _) (u : Lexemes) (a : _) → rounds l n x u a → rounds l' n x u a
    go zero x u a h = h
    go (suc n) x u a h = or_rises (then_rises (f x) (go n)) (same (nothing x)) u a h

abbrev pub Agree : {A : Type 0} → ℕ → Parser A → Parser A → Type 0
Agree n p q = (s : Lexemes) → length s ≤ n → p s ≡ q s

-- what is left is no longer
abbrev pub Shrinks : {A : Type 0} → Parser A → Type 0
Shrinks {A} p = (s : Lexemes) (a : A) (r : Lexemes) → p s ≡ Ok (a, r) → length r ≤ length s

and_then_agree : {A B : Type 0} (o : Outcome A) (f g : A → Parser B) → ((a : A) (r : Lexemes) → o ≡ Ok (a, r) → f a r ≡ g a r) → and_then o f ≡ and_then o g
and_then_agree (Ok x) f g h = h x.0 x.1 refl
and_then_agree (Err k) f g h = refl

pub then_agrees : {A B : Type 0} (n : ℕ) (p p' : Parser A) (q q' : A → Parser B) → Shrinks p → Agree n p p' → ((a : A) → Agree n (q a) (q' a)) → Agree n (λ s. and_then (p s) q) (λ s. and_then (p' s) q')
then_agrees n p p' q q' h e f s le =
    and_then_agree (p s) q q' (λ a r is. let k = h s a r is in f a r (omega arith)) ∙ ap (λ o. and_then o q') (e s le)

-- behind a lexeme there is less
pub take_agrees : {A B : Type 0} (n : ℕ) (f : Lexeme → Option A) (q q' : A → Parser B) → ((a : A) → Agree n (q a) (q' a)) → Agree (suc n) (λ s. and_then (take f s) q) (λ s. and_then (take f s) q')
take_agrees n f q q' h [] le = refl
take_agrees {A = A} n f q q' h (t ∷ s) le = go (f t)
  where
    go : (o : Option A) → and_then (taken o s (suc (length s))) q ≡ and_then (taken o s (suc (length s))) q'
    go (Some a) = h a s (omega arith)
    go None = refl

pub branch_agrees : {A : Type 0} (n : ℕ) (ks : Kinds) (p p' q q' : Parser A) → Agree n p p' → Agree n q q' → Agree n (branch ks p q) (branch ks p' q')
branch_agrees n ks p p' q q' h k s le = ap (λ o. choose (sees ks s) o (q s)) (h s le) ∙ ap (λ o. choose (sees ks s) (p' s) o) (k s le)

pub repeat_agrees : {X : Type 0} (n : ℕ) (ks : Kinds) (p p' : X → Parser X) → ((x : X) → Shrinks (p x)) → ((x : X) → Agree n (p x) (p' x)) → (x : X) → Agree n (repeat_by ks p x) (repeat_by ks p' x)
unfolding repeat_by
repeat_agrees {X = X} n ks p p' h f x s le = go (length s) x s le
  where
    go : (k : ℕ) (x : X) → Agree n (rounds_by ks p k x) (rounds_by ks p' k x)
    go zero x s le = refl
    go (suc k) x s le = branch_agrees n ks (λ s. and_then (p x s) (rounds_by ks p k)) (λ s. and_then (p' x s) (rounds_by ks p' k)) (pure x) (pure x) (then_agrees n (p x) (p' x) (rounds_by ks p k) (rounds_by ks p' k) (h x) (f x) (go k)) (λ s le. refl) s le

pub agree_refl : {A : Type 0} (n : ℕ) (p : Parser A) → Agree n p p
agree_refl n p s le = refl

pub shrinks : {A : Type 0} {l : Lang A} {p : Parser A} {f C : Kinds} {e : Bool} → Reads l p f e C → Shrinks p
shrinks rd = no_longer rd

pub take_shrinks : {A : Type 0} (f : Lexeme → Option A) → Shrinks (take f)
take_shrinks f [] a r e = absurd cc
take_shrinks {A = A} f (t ∷ s) a r e = go (f t) e
  where
    go : (o : Option A) → taken o s (suc (length s)) ≡ Ok (a, r) → length r ≤ suc (length s)
    go (Some b) e = let n : length s ≡ length r = ap length (done_is b a s r e).1 in omega arith
    go None e = absurd cc
