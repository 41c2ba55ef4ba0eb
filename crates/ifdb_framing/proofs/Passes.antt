-- Languages each of whose values passes a test, where the lexemes that spell it are clean.
use Rattle.std.proofs.Common.{◌≡◌, ℕ, zero, suc, Bool, true, List, [], ◌∷◌, ◌++◌, Some, refl, sym, ap, ◌∙◌, inl, inr}
use Rattle.std.specs.Prelude.{◌⊎◌}
use Rattle.std.specs.List.{list_all}
use Rattle.std.proofs.lemmas.Bool.{and_parts}
use Rattle.std.proofs.lemmas.List.Folds.{list_all-append}
use Rattle.ifdb_syntax.specs.declared.lexeme.Lexeme.{Lexeme}
use Rattle.ifdb_syntax.specs.declared.lexeme.Lexeme.TheVariants as t
use Rattle.ifdb_syntax.specs.Words.{Lexemes, name_of, text_of}
use Rattle.ifdb_syntax.specs.Lang.{Lang, Then, nothing, at_some, rounds, repeat, name, text, parens, separated}
use Rattle.ifdb_laws.specs.Bytes.{is_line}
use Rattle.ifdb_framing.proofs.Lists.{any, all_push}

-- the name or the text of the lexeme is without a newline
abbrev pub is_clean_lexeme : Lexeme → Bool
is_clean_lexeme (t.Name n) = is_line n
is_clean_lexeme (t.Quoted w) = is_line w
is_clean_lexeme _ = true

abbrev pub are_clean_lexemes : Lexemes → Bool
are_clean_lexemes s = list_all is_clean_lexeme s

pub record Passes {A : Type 0} (l : Lang A) (p : A → Bool) : Type 0 where
  pub goes : (u : Lexemes) (a : A) → are_clean_lexemes u ≡ true → l u a → p a ≡ true

-- ---- parts

-- nothing is asked
pub free : {A : Type 0} {l : Lang A} → Passes l any
free = record { goes = λ u a c h. refl }

pub done : {A : Type 0} {p : A → Bool} (x : A) → p x ≡ true → Passes (nothing x) p
done {p = p} x e = record { goes = λ u a c h. ap p h.1 ∙ e }

split : (u v w : Lexemes) → u ≡ v ++ w → are_clean_lexemes u ≡ true → (are_clean_lexemes v ≡ true) × (are_clean_lexemes w ≡ true)
split u v w e c = and_parts (are_clean_lexemes v) (are_clean_lexemes w) (sym (list_all-append is_clean_lexeme v w) ∙ (sym (ap are_clean_lexemes e) ∙ c))

pub part : {A B : Type 0} {l : Lang A} {q : A → Bool} {p : B → Bool} (m : A → Lang B) → Passes l q → ((a : A) → q a ≡ true → Passes (m a) p) → Passes (λ u b. Then l m u b) p
part m hl hm = record {
  goes = λ u b c h.
      let parts = split u h.front h.back h.parts c in
      (hm h.value (hl.goes h.front h.value parts.0 h.first)).goes h.back b parts.1 h.second;
}

-- a part of which nothing is asked
pub past : {A B : Type 0} {l : Lang A} {p : B → Bool} (m : A → Lang B) → ((a : A) → Passes (m a) p) → Passes (λ u b. Then l m u b) p
past m hm = record {
  goes = λ u b c h. (hm h.value).goes h.back b (split u h.front h.back h.parts c).1 h.second;
}

pub either : {A : Type 0} {l k : Lang A} {p : A → Bool} → Passes l p → Passes k p → Passes (λ u a. l u a ⊎ k u a) p
either hl hk = record { goes = λ u a c h. elim h [ inl x ↦ hl.goes u a c x | inr y ↦ hk.goes u a c y ] }

pub in_some : {A : Type 0} {l : ℕ → Lang A} {p : A → Bool} → ((n : ℕ) → Passes (l n) p) → Passes (at_some l) p
in_some h = record { goes = λ u a c k. (h k.0).goes u a c k.1 }

-- ---- rounds

rounds_pass : {X : Type 0} (step : X → Lang X) (p : X → Bool) → ((x : X) → p x ≡ true → Passes (step x) p) → (n : ℕ) (x : X) → p x ≡ true → (u : Lexemes) (y : X) → are_clean_lexemes u ≡ true
    → rounds step n x u y → p y ≡ true
rounds_pass step p h zero x e u y c k = ap p k.1 ∙ e
rounds_pass step p h (suc n) x e u y c (inl k) =
    let parts = split u k.front k.back k.parts c in
    rounds_pass step p h n k.value ((h x e).goes k.front k.value parts.0 k.first) k.back y parts.1 k.second
rounds_pass step p h (suc n) x e u y c (inr k) = ap p k.1 ∙ e

pub repeated : {X : Type 0} {step : X → Lang X} {p : X → Bool} (x : X) → p x ≡ true → ((y : X) → p y ≡ true → Passes (step y) p) → Passes (repeat step x) p
repeated {step = step} {p = p} x e h = record { goes = λ u y c k. rounds_pass step p h k.0 x e u y c k.1 }

-- ---- lists and parentheses

pub members : {X : Type 0} {l : Lang X} {p : X → Bool} (k : ℕ) → Passes l p → Passes (separated k l) (list_all p)
members {l = l} {p = p} k h =
    part _ h (λ x e. repeated (x ∷ []) (all_push p [] x refl e) (λ found all. past _ (λ _. part _ h (λ y f. done (found ++ y ∷ []) (all_push p found y all f)))))

pub enclosed : {A : Type 0} {l : Lang A} {p : A → Bool} → Passes l p → Passes (parens l) p
enclosed {p = p} h = past _ (λ _. part _ h (λ x e. past _ (λ _. done x e)))

-- ---- single lexemes

same_text : (a b : List ℕ) → Some a ≡ Some b → a ≡ b
same_text a b e = cc

name_clean : (x : Lexeme) (n : List ℕ) → is_clean_lexeme x ≡ true → name_of x ≡ Some n → is_line n ≡ true
name_clean (t.Name m) n c e = ap is_line (sym (same_text m n e)) ∙ c
name_clean _ n c e = absurd (cc)

text_clean : (x : Lexeme) (n : List ℕ) → is_clean_lexeme x ≡ true → text_of x ≡ Some n → is_line n ≡ true
text_clean (t.Quoted m) n c e = ap is_line (sym (same_text m n e)) ∙ c
text_clean _ n c e = absurd (cc)

alone : (u : Lexemes) (x : Lexeme) → u ≡ x ∷ [] → are_clean_lexemes u ≡ true → is_clean_lexeme x ≡ true
alone u x e c = (and_parts (is_clean_lexeme x) true (sym (ap are_clean_lexemes e) ∙ c)).0

pub name_passes : Passes name is_line
name_passes = record { goes = λ u n c h. name_clean h.0 n (alone u h.0 h.1 c) h.2 }

pub text_passes : Passes text is_line
text_passes = record { goes = λ u n c h. text_clean h.0 n (alone u h.0 h.1 c) h.2 }
