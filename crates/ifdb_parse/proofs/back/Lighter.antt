-- Lexemes that pass no limit of a line where others pass none.
use Rattle.std.proofs.Common.{◌≡◌, ℕ, ◌+◌, ◌-◌, ◌^◌, ◌≤◌, true, false, [], ◌∷◌, ◌++◌, None, refl, sym, subst, append_assoc, append-nil, arith}
use Rattle.std.specs.Str.{IsUtf8}
use Rattle.ifdb_value.specs.Name.{is_name}
use Rattle.ifdb_syntax.specs.declared.lexeme.Lexeme.{Lexeme}
use Rattle.ifdb_syntax.specs.declared.lexeme.Lexeme.TheVariants as t
use Rattle.ifdb_syntax.specs.Words.{Lexemes}
use Rattle.ifdb_parse.specs.declared.limits.Before.{Before}
use Rattle.ifdb_parse.specs.declared.limits.Before.TheVariants as before
use Rattle.ifdb_parse.specs.Lexemes.{reserved}
use Rattle.ifdb_parse.specs.TreeLimits.{behind, is_lone, has_lone}
use Rattle.ifdb_parse.proofs.Readable.{neither}

-- ---- what each lexeme of a line without a fault says

-- a name that is no reserved word, a number that a token may have, a text in UTF-8
abbrev pub Sound : Lexeme → Type 0
Sound (t.Name name) = (is_name name ≡ true) × (reserved name ≡ None)
Sound (t.Number number) = number ≤ 2 ^ 63
Sound (t.Quoted text) = IsUtf8 text
Sound _ = Unit {0}

abbrev pub AllSound : Lexemes → Type 0
AllSound [] = Unit {0}
AllSound (x ∷ s) = Sound x × AllSound s

-- ---- the limits that count lexemes

-- how many parentheses are open behind a lexeme, where so many are before it
abbrev pub level : ℕ → Lexeme → ℕ
level depth t.Open = depth + 1
level depth t.Close = depth - 1
level depth _ = depth

-- never more than 32, where so many are open at first
abbrev pub Shallow : ℕ → Lexemes → Type 0
Shallow depth [] = Unit {0}
Shallow depth (x ∷ s) = (level depth x ≤ 32) × Shallow (level depth x) s

abbrev pub not_count : Lexeme → ℕ
not_count t.Not = 1
not_count _ = 0

-- how often NOT stands among them
abbrev pub nots : Lexemes → ℕ
nots [] = 0
nots (x ∷ s) = not_count x + nots s

-- v passes no limit where u passes none, between places of one kind: `b` before them, `c` behind them
pub record Lighter (b c : Before) (v u : Lexemes) : Type 0 where
  pub sound : AllSound u → AllSound v
  pub fewer : nots v ≤ nots u
  pub shallow : (j k : ℕ) (s r : Lexemes) → j ≤ k → k ≤ 32 → (Shallow k r → Shallow j s) → Shallow k (u ++ r) → Shallow j (v ++ s)
  pub lone : (s r : Lexemes) → (has_lone c r ≡ false → has_lone c s ≡ false) → has_lone b (u ++ r) ≡ false → has_lone b (v ++ s) ≡ false

-- ---- parts

pub sound_front : (u x : Lexemes) → AllSound (u ++ x) → AllSound u
sound_front [] x h = tt
sound_front (y ∷ u) x h = (h.0, sound_front u x h.1)

sound_back : (u x : Lexemes) → AllSound (u ++ x) → AllSound x
sound_back [] x h = h
sound_back (y ∷ u) x h = sound_back u x h.1

pub sound_append : (u x : Lexemes) → AllSound u → AllSound x → AllSound (u ++ x)
sound_append [] x h k = k
sound_append (y ∷ u) x h k = (h.0, sound_append u x h.1 k)

pub nots-append : (u x : Lexemes) → nots (u ++ x) ≡ nots u + nots x
nots-append [] x = omega arith
nots-append (y ∷ u) x = let e = nots-append u x in omega arith

pub nil_lighter : (b : Before) → Lighter b b [] []
nil_lighter b = record { sound = λ h. tt; fewer = omega arith; shallow = λ j k s r le top h e. h e; lone = λ s r h e. h e }

pub append_lighter : (b c d : Before) (v u w x : Lexemes) → Lighter b c v u → Lighter c d w x → Lighter b d (v ++ w) (u ++ x)
append_lighter b c d v u w x l m = record {
  sound = λ h. sound_append v w (l.sound (sound_front u x h)) (m.sound (sound_back u x h));
  fewer =
      let e = nots-append v w in
      let f = nots-append u x in
      let g = l.fewer in
      let h = m.fewer in
      omega arith;
  shallow = λ j k s r le top h e.
      let e' = subst (Shallow k) (append_assoc u x r) e in
      subst (Shallow j) (sym (append_assoc v w s)) (l.shallow j k (w ++ s) (x ++ r) le top (m.shallow j k s r le top h) e');
  lone = λ s r h e.
      let e' = subst (λ (z : Lexemes). has_lone b z ≡ false) (append_assoc u x r) e in
      subst (λ (z : Lexemes). has_lone b z ≡ false) (sym (append_assoc v w s)) (l.lone (w ++ s) (x ++ r) (m.lone s r h) e');
}

-- a lexeme that is no parenthesis
abbrev pub Flat : Lexeme → Type 0
Flat x = (k : ℕ) → level k x ≡ k

-- one lexeme in the place of another
pub one_lighter : (b c : Before) (x y : Lexeme) → Flat x → Flat y → (Sound y → Sound x) → not_count x ≤ not_count y → behind b x ≡ c → behind b y ≡ c →
    (is_lone b y ≡ false → is_lone b x ≡ false) → Lighter b c (x ∷ []) (y ∷ [])
one_lighter b c x y flat flat' sound fewer to to' lone = record {
  sound = λ h. (sound h.0, tt);
  fewer = omega arith;
  shallow = λ j k s r le top h e.
      let low : j ≤ 32 = omega arith in
      (subst (λ n. n ≤ 32) (sym (flat j)) low, subst (λ n. Shallow n s) (sym (flat j)) (h (subst (λ n. Shallow n r) (flat' k) e.1)));
  lone = λ s r h e.
      let ab = neither (is_lone b y) (has_lone (behind b y) r) e in
      let rest = h (rw to' at ab.1) in
      rw (lone ab.0, to) rest;
}

pub same_lighter : (b : Before) (x : Lexeme) → Flat x → Lighter b (behind b x) (x ∷ []) (x ∷ [])
same_lighter b x flat = one_lighter b (behind b x) x x flat flat (λ h. h) (omega arith) refl refl (λ e. e)

-- a lexeme that isn't written
pub none_lighter : (b : Before) (y : Lexeme) → Flat y → behind b y ≡ b → Lighter b b [] (y ∷ [])
none_lighter b y flat to = record {
  sound = λ h. tt;
  fewer = omega arith;
  shallow = λ j k s r le top h e. h (subst (λ n. Shallow n r) (flat k) e.1);
  lone = λ s r h e. let ab = neither (is_lone b y) (has_lone (behind b y) r) e in h (rw to at ab.1);
}

-- ---- parentheses

no_paren_is_lone : (b : Before) → is_lone b t.Open ≡ false
no_paren_is_lone before.Operand = refl
no_paren_is_lone before.Sign = refl
no_paren_is_lone before.Other = refl

past_close : (c : Before) (s r : Lexemes) → (has_lone before.Operand r ≡ false → has_lone before.Operand s ≡ false) → has_lone c (t.Close ∷ r) ≡ false →
    has_lone c (t.Close ∷ s) ≡ false
past_close before.Operand s r h e = h e
past_close before.Sign s r h e = h e
past_close before.Other s r h e = h e

pub parens_lighter : (b c : Before) (v u : Lexemes) → Lighter before.Other c v u →
    Lighter b before.Operand (t.Open ∷ v ++ t.Close ∷ []) (t.Open ∷ u ++ t.Close ∷ [])
parens_lighter b c v u l = record {
  sound = λ h. (tt, sound_append v (t.Close ∷ []) (l.sound (sound_front u (t.Close ∷ []) h.1)) (tt, tt));
  fewer =
      let e = nots-append v (t.Close ∷ []) in
      let f = nots-append u (t.Close ∷ []) in
      let g = l.fewer in
      omega arith;
  shallow = λ j k s r le top h e.
      let inner = subst (Shallow (k + 1)) (append_assoc u (t.Close ∷ []) r) e.1 in
      let closes : (m : ℕ) → m + 1 - 1 ≡ m = λ m. omega arith in
      let next : Shallow (k + 1) (t.Close ∷ r) → Shallow (j + 1) (t.Close ∷ s) = λ f.
      let low : j + 1 - 1 ≤ 32 = omega arith in
      (low, subst (λ n. Shallow n s) (sym (closes j)) (h (subst (λ n. Shallow n r) (closes k) f.1))) in
      let le' : j + 1 ≤ k + 1 = omega arith in
      let low : j + 1 ≤ 32 = omega (arith, e.0) in
      (low, subst (Shallow (j + 1)) (sym (append_assoc v (t.Close ∷ []) s)) (l.shallow (j + 1) (k + 1) (t.Close ∷ s) (t.Close ∷ r) le' e.0 next inner));
  lone = λ s r h e.
      let ab = neither (is_lone b t.Open) (has_lone before.Other ((u ++ t.Close ∷ []) ++ r)) e in
      let inner = subst (λ (z : Lexemes). has_lone before.Other z ≡ false) (append_assoc u (t.Close ∷ []) r) ab.1 in
      let next = l.lone (t.Close ∷ s) (t.Close ∷ r) (past_close c s r h) inner in
      rw (no_paren_is_lone b) (subst (λ (z : Lexemes). has_lone before.Other z ≡ false) (sym (append_assoc v (t.Close ∷ []) s)) next);
}

-- parentheses that aren't written
pub drop_parens_lighter : (v u : Lexemes) → Lighter before.Other before.Operand v u → Lighter before.Other before.Operand v (t.Open ∷ u ++ t.Close ∷ [])
drop_parens_lighter v u l = record {
  sound = λ h. l.sound (sound_front u (t.Close ∷ []) h.1);
  fewer =
      let f = nots-append u (t.Close ∷ []) in
      let g = l.fewer in
      omega arith;
  shallow = λ j k s r le top h e.
      let inner = subst (Shallow (k + 1)) (append_assoc u (t.Close ∷ []) r) e.1 in
      let closes : k + 1 - 1 ≡ k = omega arith in
      let next : Shallow (k + 1) (t.Close ∷ r) → Shallow j s = λ f. h (subst (λ n. Shallow n r) closes f.1) in
      let le' : j ≤ k + 1 = omega arith in
      l.shallow j (k + 1) s (t.Close ∷ r) le' e.0 next inner;
  lone = λ s r h e.
      let ab = neither (is_lone before.Other t.Open) (has_lone before.Other ((u ++ t.Close ∷ []) ++ r)) e in
      let inner = subst (λ (z : Lexemes). has_lone before.Other z ≡ false) (append_assoc u (t.Close ∷ []) r) ab.1 in
      l.lone s (t.Close ∷ r) h inner;
}

-- ---- up to the end of a line

-- v passes no limit where u passes none, and nothing comes behind them
pub record LighterEnd (b : Before) (v u : Lexemes) : Type 0 where
  pub sound : AllSound u → AllSound v
  pub fewer : nots v ≤ nots u
  pub shallow : (j k : ℕ) → j ≤ k → k ≤ 32 → Shallow k u → Shallow j v
  pub lone : has_lone b u ≡ false → has_lone b v ≡ false

pub append_end : (b c : Before) (v u w x : Lexemes) → Lighter b c v u → LighterEnd c w x → LighterEnd b (v ++ w) (u ++ x)
append_end b c v u w x l m = record {
  sound = λ h. sound_append v w (l.sound (sound_front u x h)) (m.sound (sound_back u x h));
  fewer =
      let e = nots-append v w in
      let f = nots-append u x in
      let g = l.fewer in
      let h = m.fewer in
      omega arith;
  shallow = λ j k le top e. l.shallow j k w x le top (m.shallow j k le top) e;
  lone = λ e. l.lone w x m.lone e;
}

pub nil_end : (b : Before) → LighterEnd b [] []
nil_end b = record { sound = λ h. h; fewer = omega arith; shallow = λ j k le top e. e; lone = λ e. e }

pub end_of : (b c : Before) (v u : Lexemes) → Lighter b c v u → LighterEnd b v u
end_of b c v u l =
    subst (λ (z : Lexemes). LighterEnd b z u) (append-nil v)
    (subst (λ (z : Lexemes). LighterEnd b (v ++ []) z) (append-nil u) (append_end b c v u [] [] l (nil_end c)))
