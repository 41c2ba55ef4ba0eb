-- Languages whose values are written with lexemes that are no heavier than those that spelled them.
use Rattle.std.proofs.Common.{◌≡◌, ℕ, zero, suc, Bool, true, false, List, [], ◌∷◌, ◌++◌, Some, None, refl, sym, ap, subst, ◌∙◌, append_assoc, append-nil, inl, inr}
use Rattle.std.specs.Prelude.{◌⊎◌, nat_lt, ◌==◌, if◌then◌else◌}
use Rattle.std.specs.List.{list_all}
use Rattle.std.proofs.lemmas.Bool.{and_parts, eqb-true}
use Rattle.ifdb_syntax.specs.declared.lexeme.Lexeme.{Lexeme}
use Rattle.ifdb_syntax.specs.declared.lexeme.Lexeme.TheVariants as t
use Rattle.ifdb_syntax.specs.Words.{Lexemes, kind, is, name_of, number_of, text_of, NAME, OPEN, CLOSE, COMMA}
use Rattle.ifdb_syntax.specs.Lang.{Lang, Then, nothing, at_some, rounds, repeat, token, name, text, parens, separated, next_member, commas, names, optional_list}
use Rattle.ifdb_syntax.specs.Requests.{names_behind}
use Rattle.ifdb_syntax.specs.canonical.Tokens as canon
use Rattle.ifdb_syntax.specs.Shapes.{some_member}
use Rattle.ifdb_syntax.proofs.Makes.{Makes, next_makes, parens_makes, some_makes, some_append}
use Rattle.ifdb_syntax.proofs.KindsDiffer.{kinds_differ}
use Rattle.ifdb_parse.specs.declared.limits.Before.{Before}
use Rattle.ifdb_parse.specs.declared.limits.Before.TheVariants as before
use Rattle.ifdb_parse.specs.TreeLimits.{behind}
use Rattle.ifdb_parse.proofs.back.Lighter.{Flat, Lighter, nil_lighter, append_lighter, same_lighter, none_lighter, parens_lighter}

-- each value that passes a test is written lightly
pub record Prints {A : Type 0} (b : Before) (c : A → Before) (l : Lang A) (p : A → Bool) (f : A → Lexemes) : Type 0 where
  pub goes : (u : Lexemes) (a : A) → l u a → p a ≡ true → Lighter b (c a) (f a) u

-- the same for the rest of a rule, of whose parts v was written for what was read: the parts pass their tests if the whole does
pub record Behind {A : Type 0} (start b : Before) (R : A → Lexemes → Lexemes → Type 0) (m : Lang A) (p : A → Bool) (f : A → Lexemes) (Pre : Type 0)
    (v : Lexemes) : Type 0 where
  pub goes : (w u : Lexemes) (a : A) → m u a → p a ≡ true → Pre × (Lighter start b v w → R a (f a) (w ++ u))

-- what is written of a value is lighter, up to where it ends
abbrev pub ending : {A : Type 0} → Before → (A → Before) → A → Lexemes → Lexemes → Type 0
ending start c a v u = Lighter start (c a) v u

-- always passed
abbrev pub any : {A : Type 0} → A → Bool
any a = true

-- the end of names, numbers, texts and parentheses
abbrev pub operand : {A : Type 0} → A → Before
operand a = before.Operand

abbrev pub other : {A : Type 0} → A → Before
other a = before.Other

-- a whole rule
pub whole : {A : Type 0} {b : Before} {c : A → Before} {l : Lang A} {p : A → Bool} {f : A → Lexemes} → Behind b b (ending b c) l p f (Unit {0}) [] →
    Prints b c l p f
whole {b = b} h = record { goes = λ u a k e. (h.goes [] u a k e).1 (nil_lighter b) }

pub along : (b c : Before) (v : Lexemes) {u w : Lexemes} → u ≡ w → Lighter b c v u → Lighter b c v w
along b c v e h = subst (λ (z : Lexemes). Lighter b c v z) e h

pub along_text : (b c : Before) (w : Lexemes) {u v : Lexemes} → u ≡ v → Lighter b c u w → Lighter b c v w
along_text b c w e h = subst (λ (z : Lexemes). Lighter b c z w) e h

-- ---- the parts of a rule

-- one that is a language of its own
pub tested : {A B : Type 0} {start b : Before} {d : A → Before} {R : B → Lexemes → Lexemes → Type 0} {l : Lang A} {q : A → Bool} {g : A → Lexemes}
    {p : B → Bool} {f : B → Lexemes} {Pre : Type 0} {v : Lexemes} (m : A → Lang B) →
    Prints b d l q g → ((a : A) → Behind start (d a) R (m a) p f (Pre × (q a ≡ true)) (v ++ g a)) → Behind start b R (λ u x. Then l m u x) p f Pre v
tested {start = start} {b = b} {d = d} {R = R} {g = g} {f = f} {v = v} m hl hm = record {
  goes = λ w u x h e.
      let k = (hm h.value).goes (w ++ h.front) h.back x h.second e in (
        k.0.0,
        λ i. subst (R x (f x)) (append_assoc w h.front h.back ∙ ap (λ (z : Lexemes). w ++ z) (sym h.parts))
            (k.1 (append_lighter start b (d h.value) v w (g h.value) h.front i (hl.goes h.front h.value h.first k.0.1))),
      );
}

-- one of which nothing is asked
pub part : {A B : Type 0} {start b : Before} {d : A → Before} {R : B → Lexemes → Lexemes → Type 0} {l : Lang A} {g : A → Lexemes} {p : B → Bool}
    {f : B → Lexemes} {Pre : Type 0} {v : Lexemes} (m : A → Lang B) →
    Prints b d l any g → ((a : A) → Behind start (d a) R (m a) p f Pre (v ++ g a)) → Behind start b R (λ u x. Then l m u x) p f Pre v
part {start = start} {b = b} {d = d} {R = R} {g = g} {f = f} {v = v} m hl hm = record {
  goes = λ w u x h e.
      let k = (hm h.value).goes (w ++ h.front) h.back x h.second e in (
        k.0,
        λ i. subst (R x (f x)) (append_assoc w h.front h.back ∙ ap (λ (z : Lexemes). w ++ z) (sym h.parts))
            (k.1 (append_lighter start b (d h.value) v w (g h.value) h.front i (hl.goes h.front h.value h.first refl))),
      );
}

-- the end, where the text is known of a value that passes
pub end_if : {B : Type 0} {start b : Before} {c : B → Before} {p : B → Bool} {f : B → Lexemes} {Pre : Type 0} {v : Lexemes} (x : B) → c x ≡ b →
    (p x ≡ true → Pre) → (p x ≡ true → f x ≡ v) → Behind start b (ending start c) (nothing x) p f Pre v
end_if {start = start} {b = b} {c = c} {p = p} {f = f} {v = v} x to pre is = record {
  goes = λ w u a h e.
      let passes = subst (λ (z : _). p z ≡ true) h.1 e in (
        pre passes,
        λ i.
            let k = subst (λ (z : Before). Lighter start z v w) (sym (ap c h.1 ∙ to)) i in
            let j = along_text start (c a) w (sym (ap f h.1 ∙ is passes)) k in
            along start (c a) (f a) (sym (append-nil w) ∙ ap (λ (z : Lexemes). w ++ z) (sym h.0)) j,
      );
}

pub end : {B : Type 0} {start b : Before} {c : B → Before} {p : B → Bool} {f : B → Lexemes} {Pre : Type 0} {v : Lexemes} (x : B) → c x ≡ b →
    (p x ≡ true → Pre) → f x ≡ v → Behind start b (ending start c) (nothing x) p f Pre v
end x to pre is = end_if x to pre (λ _. is)

-- the end of a rule of whose parts nothing is asked
pub done : {B : Type 0} {start b : Before} {c : B → Before} {p : B → Bool} {f : B → Lexemes} {v : Lexemes} (x : B) → c x ≡ b → f x ≡ v →
    Behind start b (ending start c) (nothing x) p f (Unit {0}) v
done x to is = end x to (λ _. tt) is

-- ---- single lexemes

some_is : (test : Bool) (a : Unit {0}) → (if test then Some tt else None) ≡ Some a → test ≡ true
some_is true a h = refl
some_is false a h = absurd (cc)

-- the lexeme of a kind of its own
the_lexeme : (x y : Lexeme) (k : ℕ) (a : Unit {0}) → kind x ≡ k → nat_lt (kind x) NAME ≡ true → is k y ≡ Some a → x ≡ y
the_lexeme x y k a is_k low h = kinds_differ x y low (is_k ∙ sym (eqb-true (kind y) k (some_is (kind y == k) a h)))

pub token_is : (x : Lexeme) (k : ℕ) (u : Lexemes) (a : Unit {0}) → kind x ≡ k → nat_lt (kind x) NAME ≡ true → token k u a → u ≡ x ∷ []
token_is x k u a is_k low h = h.1 ∙ ap (λ (y : Lexeme). y ∷ []) (sym (the_lexeme x h.0 k a is_k low h.2))

pub token_prints : (b : Before) (x : Lexeme) (k : ℕ) → kind x ≡ k → nat_lt (kind x) NAME ≡ true → Flat x →
    Prints b (λ _. behind b x) (token k) any (λ _. x ∷ [])
token_prints b x k is_k low flat = record { goes = λ u a h e. along b (behind b x) (x ∷ []) (sym (token_is x k u a is_k low h)) (same_lighter b x flat) }

-- a word or symbol, which is written as it is
pub word : {B : Type 0} {start b : Before} {R : B → Lexemes → Lexemes → Type 0} {p : B → Bool} {f : B → Lexemes} {Pre : Type 0} {v : Lexemes} (x : Lexeme)
    (k : ℕ) (m : Unit {0} → Lang B) → kind x ≡ k → nat_lt (kind x) NAME ≡ true → Flat x →
    Behind start (behind b x) R (m tt) p f Pre (v ++ x ∷ []) → Behind start b R (λ u y. Then (token k) m u y) p f Pre v
word {b = b} x k m is_k low flat h = part m (token_prints b x k is_k low flat) (λ a. h)

-- a word that is not written
pub unwritten : {B : Type 0} {start b : Before} {R : B → Lexemes → Lexemes → Type 0} {p : B → Bool} {f : B → Lexemes} {Pre : Type 0} {v : Lexemes}
    (x : Lexeme) (k : ℕ) (m : Unit {0} → Lang B) → kind x ≡ k → nat_lt (kind x) NAME ≡ true → Flat x → behind b x ≡ b →
    Behind start b R (m tt) p f Pre v → Behind start b R (λ u y. Then (token k) m u y) p f Pre v
unwritten {start = start} {b = b} {R = R} {p = p} {f = f} {Pre = Pre} {v = v} x k m is_k low flat to h =
    part m (record { goes = λ u a h e. along b b [] (sym (token_is x k u a is_k low h)) (none_lighter b x flat to) })
    (λ a. subst (λ (z : Lexemes). Behind start b R (m tt) p f Pre z) (sym (append-nil v)) h)

pub name_is : (x : Lexeme) (n : List ℕ) → name_of x ≡ Some n → t.Name n ≡ x
name_is (t.Name m) n h = ap t.Name (some_same n m (sym h))
  where
    some_same : (a b : List ℕ) → Some a ≡ Some b → a ≡ b
    some_same a b e = cc
name_is _ n h = absurd (cc)

pub name_prints : (b : Before) → Prints b operand name any canon.name_tokens
name_prints b = record {
  goes = λ u n h e. along b before.Operand (t.Name n ∷ []) (ap (λ (y : Lexeme). y ∷ []) (name_is h.0 n h.2) ∙ sym h.1)
      (same_lighter b (t.Name n) (λ k. refl));
}

text_is : (x : Lexeme) (w : List ℕ) → text_of x ≡ Some w → t.Quoted w ≡ x
text_is (t.Quoted m) n h = ap t.Quoted (some_same n m (sym h))
  where
    some_same : (a b : List ℕ) → Some a ≡ Some b → a ≡ b
    some_same a b e = cc
text_is _ n h = absurd (cc)

pub text_prints : (b : Before) → Prints b operand text any (λ w. t.Quoted w ∷ [])
text_prints b = record {
  goes = λ u n h e. along b before.Operand (t.Quoted n ∷ []) (ap (λ (y : Lexeme). y ∷ []) (text_is h.0 n h.2) ∙ sym h.1)
      (same_lighter b (t.Quoted n) (λ k. refl));
}

pub number_is : (x : Lexeme) (n : ℕ) → number_of x ≡ Some n → t.Number n ≡ x
number_is (t.Number m) n h = ap t.Number (some_same n m (sym h))
  where
    some_same : (a b : ℕ) → Some a ≡ Some b → a ≡ b
    some_same a b e = cc
number_is _ n h = absurd (cc)

-- ---- choices and repetition

pub either : {A : Type 0} {b : Before} {c : A → Before} {l k : Lang A} {p : A → Bool} {f : A → Lexemes} → Prints b c l p f → Prints b c k p f →
    Prints b c (λ u a. l u a ⊎ k u a) p f
either hl hk = record { goes = λ u a h e. elim h [ inl x ↦ hl.goes u a x e | inr y ↦ hk.goes u a y e ] }

pub either_behind : {A : Type 0} {start b : Before} {R : A → Lexemes → Lexemes → Type 0} {l k : Lang A} {p : A → Bool}
    {f : A → Lexemes} {Pre : Type 0}
    {v : Lexemes} → Behind start b R l p f Pre v → Behind start b R k p f Pre v → Behind start b R (λ u a. l u a ⊎ k u a) p f Pre v
either_behind hl hk = record { goes = λ w u a h e. elim h [ inl x ↦ hl.goes w u a x e | inr y ↦ hk.goes w u a y e ] }

-- the first part is one of two
pub either_first : {A B : Type 0} {start b : Before} {R : B → Lexemes → Lexemes → Type 0} {l k : Lang A} {m : A → Lang B} {p : B → Bool}
    {f : B → Lexemes} {Pre : Type 0} {v : Lexemes} →
    Behind start b R (λ u x. Then l m u x) p f Pre v → Behind start b R (λ u x. Then k m u x) p f Pre v →
    Behind start b R (λ u x. Then (λ w a. l w a ⊎ k w a) m u x) p f Pre v
either_first hl hk = record {
  goes = λ w u x h e. elim h.first [
    | inl y ↦ hl.goes w u x (record { front = h.front; back = h.back; value = h.value; parts = h.parts; first = y; second = h.second }) e
    | inr y ↦ hk.goes w u x (record { front = h.front; back = h.back; value = h.value; parts = h.parts; first = y; second = h.second }) e
  ];
}

-- a rule that ends with another one
pub last : {A : Type 0} {start b : Before} {c : A → Before} {l : Lang A} {p : A → Bool} {f g : A → Lexemes} {Pre : Type 0} {v : Lexemes} → Prints b c l p g →
    ((a : A) → p a ≡ true → Pre) → ((a : A) → f a ≡ v ++ g a) → Behind start b (ending start c) l p f Pre v
last {start = start} {b = b} {c = c} {f = f} {g = g} {v = v} h pre is = record {
  goes = λ w u a k e. (pre a e, λ i. along_text start (c a) (w ++ u) (sym (is a)) (append_lighter start b (c a) v w (g a) u i (h.goes u a k e)));
}

pub in_some : {A : Type 0} {b : Before} {c : A → Before} {l : ℕ → Lang A} {p : A → Bool} {f : A → Lexemes} → ((n : ℕ) → Prints b c (l n) p f) →
    Prints b c (at_some l) p f
in_some h = record { goes = λ u a w e. (h w.0).goes u a w.1 e }

-- A round: where the new value passes, the old one does, and what is written for the new one is no heavier than what was
-- read so far. Of the old one q is known, as of each value that a round makes.
pub record Grows {X : Type 0} (q : X → Bool) (b : Before) (c : X → Before) (step : X → Lang X) (p : X → Bool) (f : X → Lexemes) : Type 0 where
  pub keeps : (x : X) (u : Lexemes) (y : X) → step x u y → q y ≡ true
  pub grows : (x : X) → q x ≡ true → Behind b (c x) (ending b c) (step x) p f (p x ≡ true) (f x)

rounds_grow : {X : Type 0} (q : X → Bool) (b : Before) (c : X → Before) (step : X → Lang X) (p : X → Bool) (f : X → Lexemes) → Grows q b c step p f →
    (n : ℕ) (x : X) → q x ≡ true → (w u : Lexemes) (y : X) → rounds step n x u y → p y ≡ true →
    (p x ≡ true) × (Lighter b (c x) (f x) w → Lighter b (c y) (f y) (w ++ u))
rounds_grow q b c step p f h zero x known w u y k e = (
  subst (λ (z : _). p z ≡ true) k.1 e,
  λ i. along b (c y) (f y) (sym (append-nil w) ∙ ap (λ (z : Lexemes). w ++ z) (sym k.0)) (subst (λ (z : _). Lighter b (c z) (f z) w) (sym k.1) i),
)
rounds_grow q b c step p f h (suc n) x known w u y (inl k) e =
    let more = rounds_grow q b c step p f h n k.value (h.keeps x k.front k.value k.first) (w ++ k.front) k.back y k.second e in
    let one = (h.grows x known).goes w k.front k.value k.first more.0 in
    (one.0, λ i. along b (c y) (f y) (append_assoc w k.front k.back ∙ ap (λ (z : Lexemes). w ++ z) (sym k.parts)) (more.1 (one.1 i)))
rounds_grow q b c step p f h (suc n) x known w u y (inr k) e = (
  subst (λ (z : _). p z ≡ true) k.1 e,
  λ i. along b (c y) (f y) (sym (append-nil w) ∙ ap (λ (z : Lexemes). w ++ z) (sym k.0)) (subst (λ (z : _). Lighter b (c z) (f z) w) (sym k.1) i),
)

-- rounds behind what was written for their first value
pub repeated : {X : Type 0} {q : X → Bool} {b b' : Before} {c : X → Before} {step : X → Lang X} {p : X → Bool} {f : X → Lexemes} {Pre : Type 0} {v : Lexemes}
    (x : X) → q x ≡ true → c x ≡ b' → (p x ≡ true → Pre) → f x ≡ v → Grows q b c step p f →
    Behind b b' (ending b c) (repeat step x) p f Pre v
repeated {q = q} {b = b} {c = c} {step = step} {p = p} {f = f} {v = v} x known to pre is h = record {
  goes = λ w u y k e.
      let more = rounds_grow q b c step p f h k.0 x known w u y k.1 e in
      (pre more.0, λ i. more.1 (along_text b (c x) w (sym is) (subst (λ (z : Before). Lighter b z v w) (sym to) i)));
}

-- what each round makes true is true of the last value, if it is of the first
pub rounds_keep : {X : Type 0} (Q : X → Type 0) (step : X → Lang X) → ((x : X) (u : Lexemes) (y : X) → step x u y → Q y) →
    (n : ℕ) (x : X) (u : Lexemes) (y : X) → Q x → rounds step n x u y → Q y
rounds_keep Q step h zero x u y k r = subst Q (sym r.1) k
rounds_keep Q step h (suc n) x u y k (inl r) = rounds_keep Q step h n r.value r.back y (h x r.front r.value r.first) r.second
rounds_keep Q step h (suc n) x u y k (inr r) = subst Q (sym r.1) k

-- ---- parentheses and lists

pub record Inside {A : Type 0} (l : Lang A) (u : Lexemes) (a : A) : Type 0 where
  pub within : Lexemes
  pub parts : u ≡ t.Open ∷ within ++ t.Close ∷ []
  pub spelled : l within a

pub inside : {A : Type 0} (l : Lang A) (u : Lexemes) (a : A) → parens l u a → Inside l u a
inside l u a h =
    let r = h.second in
    let c = r.second in
    let close : r.back ≡ t.Close ∷ [] = c.parts ∙ (ap (λ (z : Lexemes). z ++ c.back) (token_is t.Close CLOSE c.front c.value refl refl c.first)
    ∙ ap (λ (z : Lexemes). t.Close ∷ z) c.second.0) in
    record {
      within = r.front;
      parts = h.parts ∙ (ap (λ (z : Lexemes). z ++ h.back) (token_is t.Open OPEN h.front h.value refl refl h.first)
          ∙ ap (λ (z : Lexemes). t.Open ∷ z) (r.parts ∙ ap (λ (z : Lexemes). r.front ++ z) close));
      spelled = subst (λ (z : _). l r.front z) (sym c.second.1) r.first;
    }

pub parens_prints : {A : Type 0} {c : A → Before} {l : Lang A} {p : A → Bool} {f : A → Lexemes} (b : Before) → Prints before.Other c l p f →
    Prints b operand (parens l) p (λ a. canon.enclosed (f a))
parens_prints {c = c} {l = l} {f = f} b h = record {
  goes = λ u a k e.
      let i = inside l u a k in
      along b before.Operand (canon.enclosed (f a)) (sym i.parts) (parens_lighter b (c a) (f a) i.within (h.goes i.within a i.spelled e));
}

-- lists whose members end alike
pub behind_more : {X : Type 0} (k : Lexeme) (f : X → Lexemes) (xs : List X) (x : X) → canon.behind k f (xs ++ x ∷ []) ≡ canon.behind k f xs ++ (k ∷ f x)
behind_more k f [] x = append-nil (k ∷ f x)
behind_more k f (y ∷ xs) x = ap (λ (z : Lexemes). (k ∷ f y) ++ z) (behind_more k f xs x) ∙ sym (append_assoc (k ∷ f y) (canon.behind k f xs) (k ∷ f x))

all_parts : {X : Type 0} (p : X → Bool) (xs : List X) (x : X) → list_all p (xs ++ x ∷ []) ≡ true → (list_all p xs ≡ true) × (p x ≡ true)
all_parts p [] x h = (refl, (and_parts (p x) true h).0)
all_parts p (y ∷ xs) x h =
    let ab = and_parts (p y) (list_all p (xs ++ x ∷ [])) h in
    let more = all_parts p xs x ab.1 in
    (rw (ab.0, more.0) refl, more.1)

-- a list that begins with a member
abbrev pub listed : {X : Type 0} → Lexeme → (X → Lexemes) → List X → Lexemes
listed k f xs = canon.separated k f xs

separated_more : {X : Type 0} (k : Lexeme) (f : X → Lexemes) (y : X) (xs : List X) (x : X) →
    canon.separated k f ((y ∷ xs) ++ x ∷ []) ≡ canon.separated k f (y ∷ xs) ++ (k ∷ f x)
separated_more k f y xs x = ap (λ (z : Lexemes). f y ++ z) (behind_more k f xs x) ∙ sym (append_assoc (f y) (canon.behind k f xs) (k ∷ f x))

member_round : {X : Type 0} (b : Before) (c : X → Before) (k : Lexeme) (n : ℕ) (l : Lang X) (p : X → Bool) (f : X → Lexemes) (y : X) (xs : List X) →
    kind k ≡ n → nat_lt (kind k) NAME ≡ true → Flat k →
    ((d : Before) → behind d k ≡ b) → Prints b c l p f → (last : List X → Before) → ((found : List X) (x : X) → last (found ++ x ∷ []) ≡ c x) →
    Behind b (last (y ∷ xs)) (ending b last) (next_member n l (y ∷ xs)) (list_all p) (listed k f) (list_all p (y ∷ xs) ≡ true) (listed k f (y ∷ xs))
member_round b c k n l p f y xs is_k low flat back h last ends =
    word k n _ is_k low flat
    (subst (λ (z : Before). Behind b z (ending b last) (Then l (λ x. nothing ((y ∷ xs) ++ x ∷ []))) (list_all p) (listed k f) (list_all p (y ∷ xs) ≡ true)
    (listed k f (y ∷ xs) ++ k ∷ [])) (sym (back (last (y ∷ xs))))
    (tested _ h (λ x. end ((y ∷ xs) ++ x ∷ []) (ends (y ∷ xs) x) (all_parts p (y ∷ xs) x)
    (separated_more k f y xs x ∙ sym (append_assoc (listed k f (y ∷ xs)) (k ∷ []) (f x))))))

some_next : {X : Type 0} (n : ℕ) (l : Lang X) (found : List X) (u : Lexemes) (ys : List X) → next_member n l found u ys → some_member ys ≡ true
some_next n l found u ys h =
    let r = h.second.second in
    ap some_member r.1 ∙ some_append found h.second.value

member_grows : {X : Type 0} (b : Before) (c : X → Before) (k : Lexeme) (n : ℕ) (l : Lang X) (p : X → Bool) (f : X → Lexemes) → kind k ≡ n →
    nat_lt (kind k) NAME ≡ true → Flat k →
    ((d : Before) → behind d k ≡ b) → Prints b c l p f → (last : List X → Before) → ((found : List X) (x : X) → last (found ++ x ∷ []) ≡ c x) →
    Grows some_member b last (next_member n l) (list_all p) (listed k f)
member_grows b c k n l p f is_k low flat back h last ends = record {
  keeps = λ found u ys. some_next n l found u ys;
  grows = λ found some. of_some found some;
}
  where
    of_some : (found : List _) → some_member found ≡ true →
        Behind b (last found) (ending b last) (next_member n l found) (list_all p) (listed k f) (list_all p found ≡ true) (listed k f found)
    of_some [] some = absurd (cc)
    of_some (y ∷ xs) some = member_round b c k n l p f y xs is_k low flat back h last ends

-- members between separators, where each ends as its last one does
pub members_end : {X : Type 0} (b : Before) (c : X → Before) (k : Lexeme) (n : ℕ) (l : Lang X) (p : X → Bool) (f : X → Lexemes) → kind k ≡ n →
    nat_lt (kind k) NAME ≡ true → Flat k →
    ((d : Before) → behind d k ≡ b) → Prints b c l p f → (last : List X → Before) → ((found : List X) (x : X) → last (found ++ x ∷ []) ≡ c x) →
    Prints b last (separated n l) (list_all p) (listed k f)
members_end b c k n l p f is_k low flat back h last ends =
    whole (tested _ h (λ x. repeated (x ∷ []) refl (ends [] x) (λ e. (tt, (and_parts (p x) true e).0)) (append-nil (f x))
    (member_grows b c k n l p f is_k low flat back h last ends)))

-- members between separators, each of which ends as an operand
pub members : {X : Type 0} {l : Lang X} {p : X → Bool} {f : X → Lexemes} (b : Before) (k : Lexeme) (n : ℕ) → kind k ≡ n → nat_lt (kind k) NAME ≡ true → Flat k →
    ((d : Before) → behind d k ≡ b) → Prints b operand l p f → Prints b operand (separated n l) (list_all p) (listed k f)
members {l = l} {p = p} {f = f} b k n is_k low flat back h = members_end b operand k n l p f is_k low flat back h operand (λ found x. refl)

-- members between commas
pub listing : {X : Type 0} {l : Lang X} {p : X → Bool} {f : X → Lexemes} → Prints before.Other operand l p f →
    Prints before.Other operand (commas l) (list_all p) (canon.commas f)
listing h = members before.Other t.Comma COMMA refl refl (λ k. refl) (λ d. refl) h

-- where each member passes
pub any_all : {X : Type 0} (xs : List X) → list_all any xs ≡ true
any_all [] = refl
any_all (x ∷ xs) = any_all xs

pub free_listing : {X : Type 0} {l : Lang X} {f : X → Lexemes} → Prints before.Other operand l any f →
    Prints before.Other operand (commas l) any (canon.commas f)
free_listing h = record { goes = λ u a k e. (listing h).goes u a k (any_all a) }

pub names_print : Prints before.Other operand names any canon.names_tokens
names_print = free_listing (name_prints before.Other)

-- ---- lists that may be left out

some_form : {X : Type 0} (f g : List X → Lexemes) → ((x : X) (xs : List X) → f (x ∷ xs) ≡ g (x ∷ xs)) → (xs : List X) → some_member xs ≡ true → f xs ≡ g xs
some_form f g form [] some = absurd (cc)
some_form f g form (x ∷ xs) some = form x xs

-- a list that is left out where it is empty
pub optional_prints : {X : Type 0} {b : Before} {l : Lang (List X)} {f g : List X → Lexemes} → Prints b (λ _. b) l any g → Makes l some_member →
    ((x : X) (xs : List X) → f (x ∷ xs) ≡ g (x ∷ xs)) → f [] ≡ [] → Prints b (λ _. b) (optional_list l) any f
optional_prints {b = b} {f = f} {g = g} h makes form none = record {
  goes = λ u a k e. elim k [
    | inl x ↦ along_text b b u (sym (some_form f g form a (makes u a x))) (h.goes u a x e)
    | inr x ↦ along b b (f a) (sym x.0) (along_text b b [] (sym none ∙ ap f (sym x.1)) (nil_lighter b))
  ];
}

pub names_make : Makes names some_member
names_make = some_makes COMMA name

-- [word ( names )]
pub names_behind_prints : (x : Lexeme) (k : ℕ) → kind x ≡ k → nat_lt (kind x) NAME ≡ true → Flat x →
    Prints before.Operand operand (names_behind k) any (canon.names_behind_tokens x)
names_behind_prints x k is_k low flat =
    optional_prints {g = λ ns. x ∷ canon.enclosed (canon.names_tokens ns)}
    (whole (word x k _ is_k low flat (last (parens_prints (behind before.Operand x) names_print) (λ a e. tt) (λ a. refl))))
    (next_makes some_member _ _ (λ _. parens_makes some_member names names_make)) (λ n ns. refl) refl

-- ---- rounds in the middle of a rule

pub rounds_then : {X A : Type 0} {start b : Before} {q : X → Bool} {c : X → Before} {R : A → Lexemes → Lexemes → Type 0} {step : X → Lang X}
    {g : X → Lexemes} {p : A → Bool} {f : A → Lexemes} {Pre : Type 0} {v : Lexemes} (x : X) (m : X → Lang A) → q x ≡ true → c x ≡ b → g x ≡ v →
    Grows q start c step any g → ((y : X) → q y ≡ true → Behind start (c y) R (m y) p f Pre (g y)) →
    Behind start b R (λ u a. Then (repeat step x) m u a) p f Pre v
rounds_then {start = start} {q = q} {c = c} {R = R} {step = step} {g = g} {f = f} {v = v} x m known to is h hm = record {
  goes = λ w u a k e.
      let y = k.value in
      let at_end = rounds_keep (λ z. q z ≡ true) step h.keeps k.first.0 x k.front y known k.first.1 in
      let rest = (hm y at_end).goes (w ++ k.front) k.back a k.second e in
      let more = rounds_grow q start c step any g h k.first.0 x known w k.front y k.first.1 refl in (
        rest.0,
        λ i. subst (R a (f a)) (append_assoc w k.front k.back ∙ ap (λ (z : Lexemes). w ++ z) (sym k.parts))
            (rest.1 (more.1 (along_text start (c x) w (sym is) (subst (λ (z : Before). Lighter start z v w) (sym to) i)))),
      );
}

-- ---- parentheses around parts of a rule

-- what is written between parentheses
abbrev pub closing : {A : Type 0} → Before → A → Lexemes → Lexemes → Type 0
closing b a v u = Lighter b before.Operand (t.Open ∷ v ++ t.Close ∷ []) (t.Open ∷ u)

pub close_last : {A : Type 0} {b d : Before} {p : A → Bool} {f : A → Lexemes} {Pre : Type 0} {v : Lexemes} (x : A) → (p x ≡ true → Pre) → f x ≡ v →
    Behind before.Other d (closing b) (λ u a. Then (token CLOSE) (λ _. nothing x) u a) p f Pre v
close_last {b = b} {d = d} {p = p} {f = f} {v = v} x pre is = record {
  goes = λ w u a h e. (
    pre (subst (λ (z : _). p z ≡ true) h.second.1 e),
    λ i.
        let text : w ++ t.Close ∷ [] ≡ w ++ u =
        ap (λ (z : Lexemes). w ++ z) (ap (λ (z : Lexemes). t.Close ∷ z) (sym h.second.0)
        ∙ (sym (ap (λ (z : Lexemes). z ++ h.back) (token_is t.Close CLOSE h.front h.value refl refl h.first)) ∙ sym h.parts)) in
        subst (λ (z : Lexemes). Lighter b before.Operand (t.Open ∷ f a ++ t.Close ∷ []) (t.Open ∷ z)) text
        (subst (λ (z : Lexemes). Lighter b before.Operand (t.Open ∷ z ++ t.Close ∷ []) (t.Open ∷ w ++ t.Close ∷ [])) (sym (ap f h.second.1 ∙ is))
        (parens_lighter b d v w i)),
  );
}

pub opened : {A : Type 0} {start b : Before} {m : Unit {0} → Lang A} {p : A → Bool} {f g : A → Lexemes} {Pre : Type 0} {v : Lexemes} →
    Behind before.Other before.Other (closing b) (m tt) p g Pre [] →
    ((u : Lexemes) (a : A) → m tt u a → f a ≡ v ++ canon.enclosed (g a)) → Behind start b (ending start operand) (λ u a. Then (token OPEN) m u a) p f Pre v
opened {start = start} {b = b} {f = f} {g = g} {v = v} h form = record {
  goes = λ w u a k e.
      let inner = h.goes [] k.back a k.second e in (
        inner.0,
        λ i.
            let text : w ++ t.Open ∷ k.back ≡ w ++ u = ap (λ (z : Lexemes). w ++ z)
            (sym (ap (λ (z : Lexemes). z ++ k.back) (token_is t.Open OPEN k.front k.value refl refl k.first)) ∙ sym k.parts) in
            let all = append_lighter start b before.Operand v w (canon.enclosed (g a)) (t.Open ∷ k.back) i (inner.1 (nil_lighter before.Other)) in
            subst (λ (z : Lexemes). Lighter start before.Operand (f a) z) text
            (along_text start before.Operand (w ++ t.Open ∷ k.back) (sym (form k.back a k.second)) all),
      );
}
