-- Rounds of a parser, of which each that was read came to its turn and took a lexeme.
use Rattle.std.proofs.Common.{◌≡◌, ℕ, zero, suc, ◌+◌, ◌-◌, ◌<◌, ◌≤◌, Bool, true, false, [], ◌∷◌, length, Ok, Err, refl, sym, ap, ◌∙◌, arith}
use Rattle.std.proofs.lemmas.List.{length-append}
use Rattle.ifdb_syntax.specs.Words.{Lexemes}
use Rattle.ifdb_syntax.specs.Lang.{Lang}
use Rattle.ifdb_parse.specs.theory.Kinds.{Kinds, sees}
use Rattle.ifdb_parse.specs.theory.Parser.{Outcome, Parser, and_then, pure, choose, rounds_by, repeat_by}
use Rattle.ifdb_parse.specs.theory.Reads.{Starts, Reads}
use Rattle.ifdb_parse.proofs.theory.KindLemmas.{Starts-sees}

-- ---- what was read leaves no more than there was

pub no_longer : {A : Type 0} {l : Lang A} {p : Parser A} {f C : Kinds} {e : Bool} → Reads l p f e C → (s : Lexemes) (a : A) (r : Lexemes) → p s ≡ Ok (a, r) → length r ≤ length s
no_longer rd s a r is =
    let k = rd.took s a r is in
    let n : length s ≡ length k.used + length r = ap length k.parts ∙ length-append k.used r in
    omega arith

pub shorter : {A : Type 0} {l : Lang A} {p : Parser A} {f C : Kinds} → Reads l p f false C → (s : Lexemes) (a : A) (r : Lexemes) → p s ≡ Ok (a, r) → length r < length s
shorter {f} rd s a r is =
    let k = rd.took s a r is in
    let n : length s ≡ length k.used + length r = ap length k.parts ∙ length-append k.used r in
    let some = go k.used (rd.starts k.used a k.spelled) in
    omega arith
  where
    go : (u : Lexemes) → Starts f false u → 0 < length u
    go [] h = absurd cc
    go (t ∷ u) h = omega arith

abbrev pub Turns : {X : Type 0} → Kinds → (X → Parser X) → Type 0
Turns {X} f p = (x : X) (s : Lexemes) (y : X) (r : Lexemes) → p x s ≡ Ok (y, r) → (sees f s ≡ true) × (length r < length s)

-- what reads a language comes to its turn
pub turn : {A : Type 0} {l : Lang A} {p : Parser A} {f C : Kinds} → Reads l p f false C → (s : Lexemes) (y : A) (r : Lexemes) → p s ≡ Ok (y, r) → sees f s ≡ true
turn {f} rd s y r e =
    let k = rd.took s y r e in
    ap (sees f) k.parts ∙ Starts-sees f k.used r (rd.starts k.used y k.spelled)

pub turns : {X : Type 0} {l : X → Lang X} {p : X → Parser X} {f C : Kinds} → ((x : X) → Reads (l x) (p x) f false C) → Turns f p
turns rd x s y r e = (turn (rd x) s y r e, shorter (rd x) s y r e)

module _ {X : Type 0} (f : Kinds) (p : X → Parser X) (takes : Turns f p) where
  same_round : (n k : ℕ) (o : Outcome X) → ((y : X) (r : Lexemes) → o ≡ Ok (y, r) → rounds_by f p n y r ≡ rounds_by f p k y r) → and_then o (rounds_by f p n) ≡ and_then o (rounds_by f p k)
  same_round n k (Ok x) h = h x.0 x.1 refl
  same_round n k (Err e) h = refl

  pub steady : (n : ℕ) (x : X) (s : Lexemes) → length s ≤ n → rounds_by f p (suc n) x s ≡ rounds_by f p n x s
  steady zero x [] h = refl
  steady zero x (t ∷ s) h = absurd (omega arith)
  steady (suc n) x s h =
      ap (λ z. choose (sees f s) z (pure x s))
      (same_round (suc n) n (p x s) (λ y r e. let k = (takes x s y r e).1 in steady n y r (omega arith)))

  steady_from : (k n : ℕ) (x : X) (s : Lexemes) → length s ≤ n → rounds_by f p (k + n) x s ≡ rounds_by f p n x s
  steady_from zero n x s h = ap (λ z. rounds_by f p z x s) (let z : 0 + n ≡ n = omega arith in z)
  steady_from (suc k) n x s h = ap (λ z. rounds_by f p z x s) (let z : suc k + n ≡ suc (k + n) = omega arith in z) ∙ steady (k + n) x s (omega arith) ∙ steady_from k n x s h

  -- a round, and what is repeated after it
  pub repeat_is : (x : X) (s : Lexemes) → repeat_by f p x s ≡ choose (sees f s) (and_then (p x s) (repeat_by f p)) (Ok (x, s))
  unfolding repeat_by
  repeat_is x s =
      sym (steady (length s) x s (omega arith)) ∙
      ap (λ z. choose (sees f s) z (Ok (x, s))) (go (p x s) refl)
    where
      go : (o : Outcome X) → p x s ≡ o → and_then o (rounds_by f p (length s)) ≡ and_then o (λ y r. rounds_by f p (length r) y r)
      go (Ok y) is =
          let k = (takes x s y.0 y.1 is).1 in
          let n : length s ≡ (length s - length y.1) + length y.1 = omega arith in
          ap (λ z. rounds_by f p z y.0 y.1) n ∙ steady_from (length s - length y.1) (length y.1) y.0 y.1 (omega arith)
      go (Err e) is = refl

  -- a round that was read came to its turn
  pub repeat_goes : (x : X) (s : Lexemes) (y : X) (r : Lexemes) → p x s ≡ Ok (y, r) → repeat_by f p x s ≡ repeat_by f p y r
  repeat_goes x s y r e = repeat_is x s ∙ rw ((takes x s y r e).0, e) refl
