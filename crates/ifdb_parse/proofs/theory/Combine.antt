-- What reads the parts of a rule reads the rule.
use Rattle.std.proofs.Common.{◌≡◌, ℕ, suc, Bool, true, false, [], ◌∷◌, ◌++◌, length, Option, Some, None, Ok, Err, refl, sym, ap, subst, ◌∙◌, append_assoc, inl, inr, ◌⊎◌}
use Rattle.std.specs.Prelude.{◌&&◌}
use Rattle.ifdb_syntax.specs.declared.lexeme.Lexeme.{Lexeme}
use Rattle.ifdb_syntax.specs.Words.{Lexemes, kind}
use Rattle.ifdb_parse.specs.theory.Kinds.{Kinds, mem, subset, apart, sees}
use Rattle.ifdb_syntax.specs.Lang.{Lang, Then, nothing, one, ◌or◌}
use Rattle.ifdb_parse.specs.theory.Parser.{Outcome, Parser, and_then, pure, take, taken, choose, branch}
use Rattle.ifdb_parse.specs.theory.Reads.{Stops, Starts, Took, Faults, Reads}
use Rattle.std.proofs.lemmas.Bool.{or_right, both_ways}
use Rattle.ifdb_parse.proofs.theory.KindLemmas.{mem-append, mem-apart, Stops-subset, Stops-append, Starts-subset, Stops-after, Stops-choose, sees-same, Starts-sees}

-- ---- outcomes

abbrev pub done : {A : Type 0} → A → Lexemes → Outcome A
done a r = Ok (a, r)

pub done_is : {A : Type 0} (a b : A) (r s : Lexemes) → done a r ≡ done b s → (a ≡ b) × (r ≡ s)
done_is {A = A} a b r s e =
    let x : A × Lexemes = (a, r) in
    let y : A × Lexemes = (b, s) in
    let p : x ≡ y = cc in
    (ap (λ z. z.0) p, ap (λ z. z.1) p)

pub bind_ok : {A B : Type 0} (o : Outcome A) (f : A → Parser B) (b : B) (r : Lexemes) → and_then o f ≡ Ok (b, r) → (a : A) × (s : Lexemes) × (o ≡ Ok (a, s)) × (f a s ≡ Ok (b, r))
bind_ok (Ok x) f b r e = (x.0, x.1, refl, e)
bind_ok (Err k) f b r e = absurd cc

pub bind_err : {A B : Type 0} (o : Outcome A) (f : A → Parser B) (n : ℕ) → and_then o f ≡ Err n → (o ≡ Err n) ⊎ ((a : A) × (s : Lexemes) × (o ≡ Ok (a, s)) × (f a s ≡ Err n))
bind_err (Ok x) f n e = inr (x.0, x.1, refl, e)
bind_err (Err k) f n e = inl (let same : k ≡ n = cc in ap Err same)

-- what was taken is taken too where another text follows, of the same next lexeme
pub Took-at : {A : Type 0} {l : Lang A} {p : Parser A} {s : Lexemes} {a : A} {r : Lexemes} (k : Took l p s a r) (back : Lexemes) (t : Lexeme) (x w : Lexemes) → r ≡ back ++ t ∷ x → p (k.used ++ (back ++ t ∷ w)) ≡ Ok (a, back ++ t ∷ w)
Took-at k [] t x w e = k.again t x w e
Took-at k (c ∷ back) t x w e = k.again c (back ++ t ∷ x) (back ++ t ∷ w) e

-- ---- nothing, and one lexeme

pub nothing_reads : {A : Type 0} (x : A) → Reads (nothing x) (pure x) [] true []
nothing_reads x = record {
  word = [];
  sample = x;
  some = (refl, refl);
  starts = λ u a h. subst (λ (z : Lexemes). Starts [] true z) (sym h.0) refl;
  complete = λ u v a h s. rw (h.0, h.1) refl;
  took = λ s a r e.
      let parts = done_is x a s r e in
      record { used = []; parts = parts.1; spelled = (refl, sym parts.0); again = λ t y w h. ap (λ z. done z (t ∷ w)) parts.0 };
  faults = λ s k e. absurd cc;
}

pub take_reads : {A : Type 0} (f : Lexeme → Option A) (t : Lexeme) (a : A) → f t ≡ Some a → (ks : Kinds) → ((t : Lexeme) (a : A) → f t ≡ Some a → mem (kind t) ks ≡ true) → Reads (one f) (take f) ks false []
take_reads {A = A} f t₀ a₀ e₀ ks in_ks = record {
  word = t₀ ∷ [];
  sample = a₀;
  some = (t₀, refl, e₀);
  starts = λ u a h. subst (λ (z : Lexemes). Starts ks false z) (sym h.1) (in_ks h.0 a h.2);
  complete = λ u v a h s. rw (h.1, h.2) refl;
  took = took-take;
  faults = faults-take;
}
  where
    took-one : (t : Lexeme) (s : Lexemes) (o : Option A) (n : ℕ) (a : A) (r : Lexemes) → f t ≡ o → taken o s n ≡ Ok (a, r) → Took (one f) (take f) (t ∷ s) a r
    took-one t s (Some b) n a r is e =
        let parts = done_is b a s r e in
        record { used = t ∷ []; parts = ap (λ (z : Lexemes). t ∷ z) parts.1; spelled = (t, refl, is ∙ ap Some parts.0); again = λ c x w h. rw is (ap (λ z. done z (c ∷ w)) parts.0) }
    took-one t s None n a r is e = absurd cc

    took-take : (s : Lexemes) (a : A) (r : Lexemes) → take f s ≡ Ok (a, r) → Took (one f) (take f) s a r
    took-take [] a r e = absurd cc
    took-take (t ∷ s) a r e = took-one t s (f t) (suc (length s)) a r refl e

    dead_here : (t : Lexeme) (s : Lexemes) (k : ℕ) → f t ≡ None → suc (length s) ≡ k → Faults (one f) [] (t ∷ s) k
    dead_here t s k is e = record {
      used = [];
      rest = t ∷ s;
      parts = refl;
      counts = e;
      tail = t₀ ∷ [];
      value = a₀;
      goes_on = (t₀, refl, e₀);
      dead = λ c x w u v a hr hu hl sv.
          let whole : c ∷ w ≡ hl.0 ∷ v = hu ∙ ap (λ (z : Lexemes). z ++ v) hl.1 in
          let first : t ≡ hl.0 = cc in
          let none : f hl.0 ≡ None = rw (← first) is in
          cc;
    }

    faults-one : (t : Lexeme) (s : Lexemes) (o : Option A) (k : ℕ) → f t ≡ o → taken o s (suc (length s)) ≡ Err k → Faults (one f) [] (t ∷ s) k
    faults-one t s (Some b) k is e = absurd cc
    faults-one t s None k is e = dead_here t s k is (let n : suc (length s) ≡ k = cc in n)

    faults-take : (s : Lexemes) (k : ℕ) → take f s ≡ Err k → Faults (one f) [] s k
    faults-take [] k e = record {
      used = [];
      rest = [];
      parts = refl;
      counts = (let n : 0 ≡ k = cc in n);
      tail = t₀ ∷ [];
      value = a₀;
      goes_on = (t₀, refl, e₀);
      dead = λ c x w u v a hr hu hl sv. cc;
    }
    faults-take (t ∷ s) k e = faults-one t s (f t) k refl e

-- ---- wider sets

pub widen : {A : Type 0} {l : Lang A} {p : Parser A} {f C : Kinds} {d : Bool} (g D : Kinds) → Reads l p f d C → subset f g ≡ true → subset C D ≡ true → Reads l p g d D
widen {f} {C} {d} g D r hf hC = record {
  word = r.word;
  sample = r.sample;
  some = r.some;
  starts = λ u a h. Starts-subset f g d u hf (r.starts u a h);
  complete = λ u v a h s. r.complete u v a h (Stops-subset C D v hC s);
  took = r.took;
  faults = λ s k e.
      let h = r.faults s k e in
      record {
        used = h.used;
        rest = h.rest;
        parts = h.parts;
        counts = h.counts;
        tail = h.tail;
        value = h.value;
        goes_on = h.goes_on;
        dead = λ t x w u v a hr hu hl sv. h.dead t x w u v a hr hu hl (Stops-subset C D v hC sv);
      };
}

-- ---- one rule after another

module _ {A B : Type 0} (l : Lang A) (p : Parser A) (m : A → Lang B) (q : A → Parser B) (f g C D : Kinds) (e d : Bool)
    (rl : Reads l p f e C) (rm : (a : A) → Reads (m a) (q a) g d D) (fit : apart g C ≡ true) where
  then_starts : (u : Lexemes) (b : B) → Then l m u b → Starts (choose e (f ++ g) f) (e && d) u
  then_starts u b h = subst (λ (z : Lexemes). Starts (choose e (f ++ g) f) (e && d) z) (sym h.parts) (go e h.front (rl.starts h.front h.value h.first) ((rm h.value).starts h.back b h.second))
    where
      both : (n : ℕ) → mem n f ≡ true → mem n (f ++ g) ≡ true
      both n i = rw (mem-append n f g, i) refl

      back : (n : ℕ) → mem n g ≡ true → mem n (f ++ g) ≡ true
      back n i = rw (mem-append n f g) (or_right (mem n f) (mem n g) i)

      go : (c : Bool) (x : Lexemes) → Starts f c x → Starts g d h.back → Starts (choose c (f ++ g) f) (c && d) (x ++ h.back)
      go true [] s s' = last h.back s'
        where
          last : (y : Lexemes) → Starts g d y → Starts (f ++ g) d y
          last [] s = s
          last (t ∷ y) s = back (kind t) s
      go false [] s s' = absurd cc
      go true (t ∷ x) s s' = both (kind t) s
      go false (t ∷ x) s s' = s

  after : (a : A) (u v : Lexemes) (b : B) → m a u b → Stops (choose d (C ++ D) D) v → Stops C (u ++ v)
  after a u v b h s = Stops-after g C D d u v fit ((rm a).starts u b h) s

  first_part : (h-u : Lexemes) (v : Lexemes) (b : B) (h : Then l m h-u b) → Stops (choose d (C ++ D) D) v → p (h.front ++ (h.back ++ v)) ≡ Ok (h.value, h.back ++ v)
  first_part u v b h s = rl.complete h.front (h.back ++ v) h.value h.first (after h.value h.back v b h.second s)

  then_complete : (u v : Lexemes) (b : B) → Then l m u b → Stops (choose d (C ++ D) D) v → and_then (p (u ++ v)) q ≡ Ok (b, v)
  then_complete u v b h s =
      rw (h.parts, append_assoc h.front h.back v, first_part u v b h s) ((rm h.value).complete h.back v b h.second (Stops-choose C D d v s))

  then_took : (s : Lexemes) (b : B) (r : Lexemes) → and_then (p s) q ≡ Ok (b, r) → Took (Then l m) (λ s. and_then (p s) q) s b r
  then_took s b r is =
      let x = bind_ok (p s) q b r is in
      let k = rl.took s x.0 x.1 x.2 in
      let j = (rm x.0).took x.1 b r x.3 in
      record {
        used = k.used ++ j.used;
        parts = k.parts ∙ ap (λ (z : Lexemes). k.used ++ z) j.parts ∙ sym (append_assoc k.used j.used r);
        spelled = record { front = k.used; back = j.used; value = x.0; parts = refl; first = k.spelled; second = j.spelled };
        again = λ t y w h.
            let e1 : p (k.used ++ (j.used ++ t ∷ w)) ≡ Ok (x.0, j.used ++ t ∷ w) = Took-at k j.used t y w (j.parts ∙ ap (λ (z : Lexemes). j.used ++ z) h) in
            rw (append_assoc k.used j.used (t ∷ w), e1) (j.again t y w h);
      }

  then_faults : (s : Lexemes) (n : ℕ) → and_then (p s) q ≡ Err n → Faults (Then l m) (choose d (C ++ D) D) s n
  then_faults s n is = elim (bind_err (p s) q n is) [ inl e1 ↦ in_first e1 | inr x ↦ in_second x.0 x.1 x.2 x.3 ]
    where
      in_first : p s ≡ Err n → Faults (Then l m) (choose d (C ++ D) D) s n
      in_first e1 =
          let k = rl.faults s n e1 in
          let j = rm k.value in
          record {
            used = k.used;
            rest = k.rest;
            parts = k.parts;
            counts = k.counts;
            tail = k.tail ++ j.word;
            value = j.sample;
            goes_on = record { front = k.used ++ k.tail; back = j.word; value = k.value; parts = sym (append_assoc k.used k.tail j.word); first = k.goes_on; second = j.some };
            dead = λ t x w u v b hr hu hl sv.
                k.dead t x w hl.front (hl.back ++ v) hl.value hr (hu ∙ ap (λ (z : Lexemes). z ++ v) hl.parts ∙ append_assoc hl.front hl.back v) hl.first (after hl.value hl.back v b hl.second sv);
          }

      in_second : (a : A) (r : Lexemes) → p s ≡ Ok (a, r) → q a r ≡ Err n → Faults (Then l m) (choose d (C ++ D) D) s n
      in_second a r e1 e2 =
          let k = rl.took s a r e1 in
          let j = (rm a).faults r n e2 in
          record {
            used = k.used ++ j.used;
            rest = j.rest;
            parts = k.parts ∙ ap (λ (z : Lexemes). k.used ++ z) j.parts ∙ sym (append_assoc k.used j.used j.rest);
            counts = j.counts;
            tail = j.tail;
            value = j.value;
            goes_on = record { front = k.used; back = j.used ++ j.tail; value = a; parts = append_assoc k.used j.used j.tail; first = k.spelled; second = j.goes_on };
            dead = λ t x w u v b hr hu hl sv.
                let e3 : p (k.used ++ (j.used ++ t ∷ w)) ≡ Ok (a, j.used ++ t ∷ w) = Took-at k j.used t x w (j.parts ∙ ap (λ (z : Lexemes). j.used ++ z) hr) in
                let same : k.used ++ (j.used ++ t ∷ w) ≡ hl.front ++ (hl.back ++ v) = sym (append_assoc k.used j.used (t ∷ w)) ∙ hu ∙ ap (λ (z : Lexemes). z ++ v) hl.parts ∙ append_assoc hl.front hl.back v in
                let both = done_is a hl.value (j.used ++ t ∷ w) (hl.back ++ v) (sym e3 ∙ ap p same ∙ first_part u v b hl sv) in
                j.dead t x w hl.back v b hr both.1 (subst (λ (z : A). m z hl.back b) (sym both.0) hl.second) (Stops-choose C D d v sv);
          }

pub then_reads : {A B : Type 0} {l : Lang A} {p : Parser A} {m : A → Lang B} {q : A → Parser B} {f g C D : Kinds} {e d : Bool} → Reads l p f e C → ((a : A) → Reads (m a) (q a) g d D) → apart g C ≡ true → Reads (λ u b. Then l m u b) (λ s. and_then (p s) q) (choose e (f ++ g) f) (e && d) (choose d (C ++ D) D)
then_reads {A} {B} {l} {p} {m} {q} {f} {g} {C} {D} {e} {d} rl rm fit = record {
  word = rl.word ++ (rm rl.sample).word;
  sample = (rm rl.sample).sample;
  some = record { front = rl.word; back = (rm rl.sample).word; value = rl.sample; parts = refl; first = rl.some; second = (rm rl.sample).some };
  starts = then_starts l p m q f g C D e d rl rm fit;
  complete = then_complete l p m q f g C D e d rl rm fit;
  took = then_took l p m q f g C D e d rl rm fit;
  faults = then_faults l p m q f g C D e d rl rm fit;
}

-- ---- one rule or another, by the next lexeme

abbrev pub also : Bool → Kinds → Kinds
also true f = f
also false f = []

module _ {A : Type 0} (l m : Lang A) (p q : Parser A) (f g C D : Kinds) (d : Bool)
    (rl : Reads l p f false C) (rm : Reads m q g d D) (fit : apart g f ≡ true) where
  stops_first : (v : Lexemes) → Stops (C ++ (D ++ also d f)) v → Stops C v
  stops_first v s = (Stops-append C (D ++ also d f) v s).0

  stops_second : (v : Lexemes) → Stops (C ++ (D ++ also d f)) v → Stops D v
  stops_second v s = (Stops-append D (also d f) v (Stops-append C (D ++ also d f) v s).1).0

  sees_second : (u v : Lexemes) (a : A) → m u a → Stops (C ++ (D ++ also d f)) v → sees f (u ++ v) ≡ false
  sees_second u v a h s = go d u (rm.starts u a h) (Stops-append D (also d f) v (Stops-append C (D ++ also d f) v s).1).1
    where
      go : (c : Bool) (x : Lexemes) → Starts g c x → Stops (also c f) v → sees f (x ++ v) ≡ false
      go true [] st s = s
      go false [] st s = absurd cc
      go c (t ∷ x) st s = mem-apart (kind t) g f fit st

  sees_first : (u v : Lexemes) (a : A) → l u a → sees f (u ++ v) ≡ true
  sees_first u v a h = Starts-sees f u v (rl.starts u a h)

  branch_complete : (u v : Lexemes) (a : A) → (l u a ⊎ m u a) → Stops (C ++ (D ++ also d f)) v → branch f p q (u ++ v) ≡ Ok (a, v)
  branch_complete u v a (inl h) s = rw (sees_first u v a h) (rl.complete u v a h (stops_first v s))
  branch_complete u v a (inr h) s = rw (sees_second u v a h s) (rm.complete u v a h (stops_second v s))

  branch_took : (s : Lexemes) (a : A) (r : Lexemes) → branch f p q s ≡ Ok (a, r) → Took (l or m) (branch f p q) s a r
  branch_took s a r = go (sees f s) refl
    where
      first : sees f s ≡ true → p s ≡ Ok (a, r) → Took (l or m) (branch f p q) s a r
      first b e =
          let k = rl.took s a r e in
          record {
            used = k.used;
            parts = k.parts;
            spelled = inl k.spelled;
            again = λ t x w h.
                let same : sees f (k.used ++ t ∷ w) ≡ true = sees-same f k.used t w x ∙ ap (sees f) (ap (λ (z : Lexemes). k.used ++ z) (sym h) ∙ sym k.parts) ∙ b in
                rw same (k.again t x w h);
          }

      second : sees f s ≡ false → q s ≡ Ok (a, r) → Took (l or m) (branch f p q) s a r
      second b e =
          let k = rm.took s a r e in
          record {
            used = k.used;
            parts = k.parts;
            spelled = inr k.spelled;
            again = λ t x w h.
                let same : sees f (k.used ++ t ∷ w) ≡ false = sees-same f k.used t w x ∙ ap (sees f) (ap (λ (z : Lexemes). k.used ++ z) (sym h) ∙ sym k.parts) ∙ b in
                rw same (k.again t x w h);
          }

      go : (b : Bool) → sees f s ≡ b → choose b (p s) (q s) ≡ Ok (a, r) → Took (l or m) (branch f p q) s a r
      go true b e = first b e
      go false b e = second b e

  branch_faults : (s : Lexemes) (n : ℕ) → branch f p q s ≡ Err n → Faults (l or m) (C ++ (D ++ also d f)) s n
  branch_faults s n = go (sees f s) refl
    where
      first : sees f s ≡ true → p s ≡ Err n → Faults (l or m) (C ++ (D ++ also d f)) s n
      first b e =
          let k = rl.faults s n e in
          record {
            used = k.used;
            rest = k.rest;
            parts = k.parts;
            counts = k.counts;
            tail = k.tail;
            value = k.value;
            goes_on = inl k.goes_on;
            dead = λ t x w u v a hr hu hl sv.
                let same : sees f (u ++ v) ≡ true = ap (sees f) (sym hu) ∙ sees-same f k.used t w x ∙ ap (sees f) (ap (λ (z : Lexemes). k.used ++ z) (sym hr) ∙ sym k.parts) ∙ b in
                elim hl [
                  | inl h ↦ k.dead t x w u v a hr hu h (stops_first v sv)
                  | inr h ↦ both_ways (sees f (u ++ v)) (sees_second u v a h sv) same
                ];
          }

      second : sees f s ≡ false → q s ≡ Err n → Faults (l or m) (C ++ (D ++ also d f)) s n
      second b e =
          let k = rm.faults s n e in
          record {
            used = k.used;
            rest = k.rest;
            parts = k.parts;
            counts = k.counts;
            tail = k.tail;
            value = k.value;
            goes_on = inr k.goes_on;
            dead = λ t x w u v a hr hu hl sv.
                let same : sees f (u ++ v) ≡ false = ap (sees f) (sym hu) ∙ sees-same f k.used t w x ∙ ap (sees f) (ap (λ (z : Lexemes). k.used ++ z) (sym hr) ∙ sym k.parts) ∙ b in
                elim hl [
                  | inl h ↦ both_ways (sees f (u ++ v)) same (sees_first u v a h)
                  | inr h ↦ k.dead t x w u v a hr hu h (stops_second v sv)
                ];
          }

      go : (b : Bool) → sees f s ≡ b → choose b (p s) (q s) ≡ Err n → Faults (l or m) (C ++ (D ++ also d f)) s n
      go true b e = first b e
      go false b e = second b e

  branch_starts : (u : Lexemes) (a : A) → (l u a ⊎ m u a) → Starts (f ++ g) d u
  branch_starts u a (inl h) = go u (rl.starts u a h)
    where
      go : (x : Lexemes) → Starts f false x → Starts (f ++ g) d x
      go [] s = absurd cc
      go (t ∷ x) s = rw (mem-append (kind t) f g, s) refl
  branch_starts u a (inr h) = go u (rm.starts u a h)
    where
      go : (x : Lexemes) → Starts g d x → Starts (f ++ g) d x
      go [] s = s
      go (t ∷ x) s = rw (mem-append (kind t) f g) (or_right (mem (kind t) f) (mem (kind t) g) s)

pub branch_reads : {A : Type 0} {l m : Lang A} {p q : Parser A} {f g C D : Kinds} {d : Bool} → Reads l p f false C → Reads m q g d D → apart g f ≡ true → Reads (l or m) (branch f p q) (f ++ g) d (C ++ (D ++ also d f))
branch_reads {A} {l} {m} {p} {q} {f} {g} {C} {D} {d} rl rm fit = record {
  word = rl.word;
  sample = rl.sample;
  some = inl rl.some;
  starts = branch_starts l m p q f g C D d rl rm fit;
  complete = branch_complete l m p q f g C D d rl rm fit;
  took = branch_took l m p q f g C D d rl rm fit;
  faults = branch_faults l m p q f g C D d rl rm fit;
}
