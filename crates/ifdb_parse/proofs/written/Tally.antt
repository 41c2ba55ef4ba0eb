-- What the lexemes of a language say of the numbers in its values, whatever stands before and behind them.
use Rattle.std.proofs.Common.{◌≡◌, ℕ, zero, suc, ◌^◌, Bool, true, false, List, [], ◌∷◌, ◌++◌, Some, None, refl, sym, ap, subst, ◌∙◌, inl, inr}
use Rattle.std.specs.Prelude.{◌&&◌, ◌==◌, nat_le, nat_lt, if◌then◌else◌}
use Rattle.std.proofs.lemmas.Bool.{eqb-true}
use Rattle.ifdb_syntax.specs.declared.lexeme.Lexeme.{Lexeme}
use Rattle.ifdb_syntax.specs.declared.lexeme.Lexeme.TheVariants as t
use Rattle.ifdb_syntax.specs.Words.{Lexemes, kind, is, name_of, number_of, text_of, NAME}
use Rattle.ifdb_syntax.specs.Lang.{Lang, Then, nothing, at_some, rounds, repeat, token, name, number, text, ◌or◌}
use Rattle.ifdb_syntax.proofs.KindsDiffer.{kinds_differ}
use Rattle.ifdb_parse.specs.declared.limits.Before.{Before}
use Rattle.ifdb_parse.specs.declared.limits.Before.TheVariants as before
use Rattle.ifdb_parse.specs.TreeLimits.{behind}

-- ---- numbers among lexemes

abbrev pub number_fits_behind : Before → ℕ → Bool
number_fits_behind before.Sign n = nat_le n (2 ^ 63)
number_fits_behind before.Operand n = nat_lt n (2 ^ 63)
number_fits_behind before.Other n = nat_lt n (2 ^ 63)

-- a number that a value holds, by what stands before it
abbrev pub fits_behind : Lexeme → Before → Bool
fits_behind (t.Number n) last = number_fits_behind last n
fits_behind _ last = true

abbrev pub all_fit : Before → Lexemes → Bool
all_fit last [] = true
all_fit last (x ∷ s) = fits_behind x last && all_fit (behind last x) s

-- what stands before what follows
abbrev pub after : Before → Lexemes → Before
after last [] = last
after last (x ∷ s) = after (behind last x) s

pub and_true : (b : Bool) → (b && true) ≡ b
and_true true = refl
and_true false = refl

pub and_assoc : (a b c : Bool) → (a && (b && c)) ≡ ((a && b) && c)
and_assoc true b c = refl
and_assoc false b c = refl

all_fit-append : (last : Before) (u v : Lexemes) → all_fit last (u ++ v) ≡ (all_fit last u && all_fit (after last u) v)
all_fit-append last [] v = refl
all_fit-append last (x ∷ u) v = rw (all_fit-append (behind last x) u v) (and_assoc (fits_behind x last) (all_fit (behind last x) u) (all_fit (after (behind last x) u) v))

after-append : (last : Before) (u v : Lexemes) → after last (u ++ v) ≡ after (after last u) v
after-append last [] v = refl
after-append last (x ∷ u) v = after-append (behind last x) u v

-- ---- places

abbrev pub any : Before → Type 0
any last = Unit {0}

abbrev pub other : Before → Type 0
other last = last ≡ before.Other

abbrev pub sign : Before → Type 0
sign last = last ≡ before.Sign

abbrev pub operand : Before → Type 0
operand last = last ≡ before.Operand

-- In these places all numbers among the lexemes of a value are held, and it was so before, exactly where f says so of
-- the value; and they lead to those places.
pub record Tallies {A : Type 0} (l : Lang A) (P : Before → Type 0) (known : Bool) (f : A → Bool) (Q : Before → Type 0) : Type 0 where
  pub tells : (u : Lexemes) (a : A) (last : Before) → l u a → P last → ((known && all_fit last u) ≡ f a) × Q (after last u)

pub nothing_tallies : {A : Type 0} {P : Before → Type 0} {known : Bool} {f : A → Bool} (x : A) → known ≡ f x → Tallies (nothing x) P known f P
nothing_tallies {P} {known} x e = record { tells = λ u a last h p. rw (h.0, h.1) (and_true known ∙ e, p) }

pub then_tallies : {A B : Type 0} {l : Lang A} {m : A → Lang B} {P Q R : Before → Type 0} {known : Bool} {g : A → Bool} {f : B → Bool} → Tallies l P known g Q → ((a : A) → Tallies (m a) Q (g a) f R) → Tallies (λ u b. Then l m u b) P known f R
then_tallies {known} {f} tl tm = record {
  tells = λ u b last h p.
      let k = tl.tells h.front h.value last h.first p in
      let j = (tm h.value).tells h.back b (after last h.front) h.second k.1 in
      let whole : (known && all_fit last (h.front ++ h.back)) ≡ f b =
      ap (λ z. known && z) (all_fit-append last h.front h.back)
      ∙ and_assoc known (all_fit last h.front) (all_fit (after last h.front) h.back)
      ∙ ap (λ z. z && all_fit (after last h.front) h.back) k.0 ∙ j.0 in
      rw h.parts (whole, rw (after-append last h.front h.back) j.1);
}

pub or_tallies : {A : Type 0} {l m : Lang A} {P Q : Before → Type 0} {known : Bool} {f : A → Bool} → Tallies l P known f Q → Tallies m P known f Q → Tallies (l or m) P known f Q
or_tallies tl tm = record { tells = λ u a last h p. elim h [ inl k ↦ tl.tells u a last k p | inr k ↦ tm.tells u a last k p ] }

pub some_tallies : {A : Type 0} (l : ℕ → Lang A) {P Q : Before → Type 0} {known : Bool} {f : A → Bool} → ((n : ℕ) → Tallies (l n) P known f Q) → Tallies (at_some l) P known f Q
some_tallies l tl = record { tells = λ u a last h p. (tl h.0).tells u a last h.1 p }

pub repeat_tallies : {X : Type 0} (step : X → Lang X) {P : Before → Type 0} (f : X → Bool) → ((x : X) → Tallies (step x) P (f x) f P) → (x : X) → Tallies (repeat step x) P (f x) f P
repeat_tallies {X} step {P} f ts x = some_tallies (λ n. rounds step n x) (λ n. upto n x)
  where
    upto : (n : ℕ) (x : X) → Tallies (rounds step n x) P (f x) f P
    upto zero x = nothing_tallies x refl
    upto (suc n) x = or_tallies (then_tallies (ts x) (upto n)) (nothing_tallies x refl)

-- the same in fewer places, leading to more
pub placed : {A : Type 0} {l : Lang A} {P P' Q Q' : Before → Type 0} {known : Bool} {f : A → Bool} → Tallies l P known f Q → ((last : Before) → P' last → P last) → ((last : Before) → Q last → Q' last) → Tallies l P' known f Q'
placed tl to from = record { tells = λ u a last h p. let k = tl.tells u a last h (to last p) in (k.0, from (after last u) k.1) }

-- ---- lexemes

kind_is : (k : ℕ) (x : Lexeme) (a : Unit {0}) → is k x ≡ Some a → kind x ≡ k
kind_is k x a h = go (kind x == k) refl h
  where
    go : (b : Bool) → (kind x == k) ≡ b → (if b then Some tt else None) ≡ Some a → kind x ≡ k
    go true e h = eqb-true (kind x) k e
    go false e h = absurd cc

-- a word or symbol, of which this is the one
pub token_tallies : {P Q : Before → Type 0} {known : Bool} (k : ℕ) (x : Lexeme) → nat_lt k NAME ≡ true → kind x ≡ k → ((last : Before) → P last → (fits_behind x last ≡ true) × Q (behind last x)) → Tallies (token k) P known (λ _. known) Q
token_tallies {known} k x small e tells = record {
  tells = λ u a last h p.
      let same : x ≡ h.0 = kinds_differ x h.0 (subst (λ (n : ℕ). nat_lt n NAME ≡ true) (sym e) small) (e ∙ sym (kind_is k h.0 a h.2)) in
      let one : u ≡ x ∷ [] = h.1 ∙ ap (λ (y : Lexeme). y ∷ []) (sym same) in
      let now = tells last p in
      rw (one, now.0) (and_true known, now.1);
}

name_tells : (known : Bool) (a : List ℕ) (last : Before) (x : Lexeme) → name_of x ≡ Some a → ((known && (fits_behind x last && true)) ≡ known) × (behind last x ≡ before.Operand)
name_tells known a last (t.Name n) e = (and_true known, refl)
name_tells known a last _ e = absurd cc

pub name_tallies : {P : Before → Type 0} {known : Bool} → Tallies name P known (λ _. known) operand
name_tallies {known} = record { tells = λ u a last h p. rw h.1 (name_tells known a last h.0 h.2) }

text_tells : (known : Bool) (a : List ℕ) (last : Before) (x : Lexeme) → text_of x ≡ Some a → ((known && (fits_behind x last && true)) ≡ known) × (behind last x ≡ before.Operand)
text_tells known a last (t.Quoted n) e = (and_true known, refl)
text_tells known a last _ e = absurd cc

pub text_tallies : {P : Before → Type 0} {known : Bool} → Tallies text P known (λ _. known) operand
text_tallies {known} = record { tells = λ u a last h p. rw h.1 (text_tells known a last h.0 h.2) }

number_tells : (known : Bool) (a : ℕ) (last now : Before) → last ≡ now → (x : Lexeme) → number_of x ≡ Some a → ((known && (fits_behind x last && true)) ≡ (known && number_fits_behind now a)) × (behind last x ≡ before.Operand)
number_tells known a last now p (t.Number n) e =
    let same : n ≡ a = cc in
    (ap (λ z. known && z) (and_true (number_fits_behind last n)) ∙ rw (p, same) refl, refl)
number_tells known a last now p _ e = absurd cc

pub number_tallies : {known : Bool} → Tallies number other known (λ n. known && nat_lt n (2 ^ 63)) operand
number_tallies {known} = record { tells = λ u a last h p. rw h.1 (number_tells known a last before.Other p h.0 h.2) }

pub negated_tallies : {known : Bool} → Tallies number sign known (λ n. known && nat_le n (2 ^ 63)) operand
negated_tallies {known} = record { tells = λ u a last h p. rw h.1 (number_tells known a last before.Sign p h.0 h.2) }
