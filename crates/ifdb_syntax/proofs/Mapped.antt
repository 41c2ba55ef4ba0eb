-- Two languages of the same texts, where the values of the second are those of the first under a function.
use Rattle.std.proofs.Common.{◌≡◌, ℕ, zero, suc, refl, sym, ap, subst, ◌∙◌, inl, inr}
use Rattle.std.specs.Prelude.{◌⊎◌}
use Rattle.ifdb_syntax.specs.Words.{Lexemes}
use Rattle.ifdb_syntax.specs.Lang.{Lang, Then, nothing, at_some, rounds, repeat, token}

pub record Mapped {A B : Type 0} (f : A → B) (l : Lang A) (m : Lang B) : Type 0 where
  pub to : (u : Lexemes) (a : A) → l u a → m u (f a)
  pub back : (u : Lexemes) (b : B) → m u b → (a : A) × l u a × (f a ≡ b)

pub same_mapped : {A : Type 0} (l : Lang A) → Mapped (λ a. a) l l
same_mapped l = record { to = λ u a h. h; back = λ u b h. (b, h, refl) }

pub nothing_mapped : {A B : Type 0} (f : A → B) (x : A) (y : B) → f x ≡ y → Mapped f (nothing x) (nothing y)
nothing_mapped f x y e = record {
  to = λ u a h. (h.0, ap f h.1 ∙ e);
  back = λ u b h. (x, (h.0, refl), e ∙ sym h.1);
}

pub then_mapped : {A B C D : Type 0} {f : A → B} {g : C → D} {l : Lang A} {l' : Lang B} (m : A → Lang C) (m' : B → Lang D) → Mapped f l l' → ((a : A) → Mapped g (m a) (m' (f a))) → Mapped g (λ u c. Then l m u c) (λ u d. Then l' m' u d)
then_mapped {f = f} m m' hl hm = record {
  to = λ u c w. record {
    front = w.front;
    back = w.back;
    value = f w.value;
    parts = w.parts;
    first = hl.to w.front w.value w.first;
    second = (hm w.value).to w.back c w.second;
  };
  back = λ u d w.
      let k = hl.back w.front w.value w.first in
      let at_value = subst (λ (b : _). m' b w.back d) (sym k.2) w.second in
      let j = (hm k.0).back w.back d at_value in
      (j.0, record { front = w.front; back = w.back; value = k.0; parts = w.parts; first = k.1; second = j.1 }, j.2);
}

pub or_mapped : {A B : Type 0} {f : A → B} {l k : Lang A} {l' k' : Lang B} → Mapped f l l' → Mapped f k k' → Mapped f (λ u a. l u a ⊎ k u a) (λ u b. l' u b ⊎ k' u b)
or_mapped hl hk = record {
  to = λ u a h. elim h [ inl x ↦ inl (hl.to u a x) | inr y ↦ inr (hk.to u a y) ];
  back = λ u b h. elim h [
    | inl x ↦ let j = hl.back u b x in (j.0, inl j.1, j.2)
    | inr y ↦ let j = hk.back u b y in (j.0, inr j.1, j.2)
  ];
}

pub some_mapped : {A B : Type 0} {f : A → B} (l : ℕ → Lang A) (l' : ℕ → Lang B) → ((n : ℕ) → Mapped f (l n) (l' n)) → Mapped f (at_some l) (at_some l')
some_mapped l l' h = record {
  to = λ u a w. (w.0, (h w.0).to u a w.1);
  back = λ u b w. let j = (h w.0).back u b w.1 in (j.0, (w.0, j.1), j.2);
}

rounds_mapped : {A B : Type 0} (f : A → B) (step : A → Lang A) (step' : B → Lang B) → ((a : A) → Mapped f (step a) (step' (f a))) → (n : ℕ) (a : A) → Mapped f (rounds step n a) (rounds step' n (f a))
rounds_mapped f step step' h zero a = nothing_mapped f a (f a) refl
rounds_mapped f step step' h (suc n) a =
    or_mapped (then_mapped (rounds step n) (rounds step' n) (h a) (rounds_mapped f step step' h n)) (nothing_mapped f a (f a) refl)

pub repeat_mapped : {A B : Type 0} (f : A → B) (step : A → Lang A) (step' : B → Lang B) → ((a : A) → Mapped f (step a) (step' (f a))) → (a : A) → Mapped f (repeat step a) (repeat step' (f a))
repeat_mapped f step step' h a =
    some_mapped (λ n. rounds step n a) (λ n. rounds step' n (f a)) (λ n. rounds_mapped f step step' h n a)

pub token_mapped : {B D : Type 0} {g : B → D} (k : ℕ) (m : Lang B) (m' : Lang D) → Mapped g m m' → Mapped g (λ u b. Then (token k) (λ _. m) u b) (λ u d. Then (token k) (λ _. m') u d)
token_mapped k m m' h = then_mapped (λ _. m) (λ _. m') (same_mapped (token k)) (λ _. h)
