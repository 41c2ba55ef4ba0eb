-- A language that is a union of rising ones, and a parser that is steady from the text's length on. Repetition and nesting are such.
use Rattle.std.proofs.Common.{◌≡◌, ℕ, zero, suc, ◌+◌, ◌≤◌, Bool, [], ◌∷◌, ◌++◌, length, Ok, Err, refl, sym, ap, subst, ◌∙◌, arith}
use Rattle.std.proofs.lemmas.List.{append_cancel_right, length-append}
use Rattle.ifdb_syntax.specs.Words.{Lexemes}
use Rattle.ifdb_parse.specs.theory.Kinds.{Kinds}
use Rattle.ifdb_syntax.specs.Lang.{Lang, at_some}
use Rattle.ifdb_parse.specs.theory.Parser.{Parser}
use Rattle.ifdb_parse.specs.theory.Reads.{Stops, Took, Faults, Reads}

-- one list has one split at a length
pub split_is : (u r u' r' : Lexemes) → u ++ r ≡ u' ++ r' → length r ≡ length r' → (u ≡ u') × (r ≡ r')
split_is [] r [] r' e n = (refl, e)
split_is [] r (c ∷ u') r' e n = absurd (let k : length r ≡ suc (length u' + length r') = ap length e ∙ ap suc (length-append u' r') in omega arith)
split_is (c ∷ u) r [] r' e n = absurd (let k : suc (length u + length r) ≡ length r' = ap suc (sym (length-append u r)) ∙ ap length e in omega arith)
split_is (c ∷ u) r (d ∷ u') r' e n =
    let x : u ++ r ≡ u' ++ r' = cc in
    let first : c ≡ d = cc in
    let h = split_is u r u' r' x n in
    (let same : u ≡ u' = h.0 in cc, h.1)

module _ {A : Type 0} (l : ℕ → Lang A) (p : ℕ → Parser A) (f C : Kinds) (e : Bool)
    (rd : (n : ℕ) → Reads (l n) (p n) f e C)
    (rises : (n : ℕ) (u : Lexemes) (a : A) → l n u a → l (suc n) u a)
    (steady : (n : ℕ) (s : Lexemes) → length s ≤ n → p (suc n) s ≡ p n s) where
  up : (k n : ℕ) (u : Lexemes) (a : A) → l n u a → l (k + n) u a
  up zero n u a h = subst (λ (z : ℕ). l z u a) (let z : n ≡ 0 + n = omega arith in z) h
  up (suc k) n u a h = subst (λ (z : ℕ). l z u a) (let z : suc (k + n) ≡ suc k + n = omega arith in z) (rises (k + n) u a (up k n u a h))

  pub still : (k n : ℕ) (s : Lexemes) → length s ≤ n → p (k + n) s ≡ p n s
  still zero n s h = ap (λ z. p z s) (let z : 0 + n ≡ n = omega arith in z)
  still (suc k) n s h = ap (λ z. p z s) (let z : suc k + n ≡ suc (k + n) = omega arith in z) ∙ steady (k + n) s (omega arith) ∙ still k n s h

  at : Parser A
  at s = p (length s) s

  limit_complete : (u v : Lexemes) (a : A) → at_some l u a → Stops C v → p (length (u ++ v)) (u ++ v) ≡ Ok (a, v)
  limit_complete u v a h s =
      let m = length (u ++ v) in
      sym (still h.0 m (u ++ v) (omega arith)) ∙ (rd (h.0 + m)).complete u v a (subst (λ (z : ℕ). l z u a) (let z : m + h.0 ≡ h.0 + m = omega arith in z) (up m h.0 u a h.1)) s

  limit_took : (s : Lexemes) (a : A) (r : Lexemes) → p (length s) s ≡ Ok (a, r) → Took (at_some l) (λ s. p (length s) s) s a r
  limit_took s a r is =
      let k = (rd (length s)).took s a r is in
      record {
        used = k.used;
        parts = k.parts;
        spelled = (length s, k.spelled);
        again = λ t x w h.
            let s' : Lexemes = k.used ++ t ∷ w in
            let n = length s + length s' in
            let there : p n s ≡ Ok (a, r) = ap (λ z. p z s) (let z : n ≡ length s' + length s = omega arith in z) ∙ still (length s') (length s) s (omega arith) ∙ is in
            let j = (rd n).took s a r there in
            let same : j.used ≡ k.used = append_cancel_right j.used k.used r (sym j.parts ∙ k.parts) in
            let found : p n (k.used ++ t ∷ w) ≡ Ok (a, t ∷ w) = rw same at (j.again t x w h) in
            sym (still (length s) (length s') s' (omega arith)) ∙ found;
      }

  limit_faults : (s : Lexemes) (k : ℕ) → p (length s) s ≡ Err k → Faults (at_some l) C s k
  limit_faults s n is =
      let k = (rd (length s)).faults s n is in
      record {
        used = k.used;
        rest = k.rest;
        parts = k.parts;
        counts = k.counts;
        tail = k.tail;
        value = k.value;
        goes_on = (length s, k.goes_on);
        dead = λ t x w u v a hr hu hl sv.
            let m : ℕ = length s + hl.0 in
            let there : p m s ≡ Err n = ap (λ z. p z s) (let z : m ≡ hl.0 + length s = omega arith in z) ∙ still hl.0 (length s) s (omega arith) ∙ is in
            let j = (rd m).faults s n there in
            let same = split_is k.used k.rest j.used j.rest (sym k.parts ∙ j.parts) (k.counts ∙ sym j.counts) in
            j.dead t x w u v a (sym same.1 ∙ hr) (ap (λ (z : Lexemes). z ++ t ∷ w) (sym same.0) ∙ hu) (up (length s) hl.0 u a hl.1) sv;
      }

pub limit_reads : {A : Type 0} (l : ℕ → Lang A) (p : ℕ → Parser A) (f C : Kinds) (e : Bool) (rd : (n : ℕ) → Reads (l n) (p n) f e C) → ((n : ℕ) (u : Lexemes) (a : A) → l n u a → l (suc n) u a) → ((n : ℕ) (s : Lexemes) → length s ≤ n → p (suc n) s ≡ p n s) → Reads (at_some l) (λ s. p (length s) s) f e C
limit_reads l p f C e rd rises steady = record {
  word = (rd 0).word;
  sample = (rd 0).sample;
  some = (0, (rd 0).some);
  starts = λ u a h. (rd h.0).starts u a h.1;
  complete = limit_complete l p f C e rd rises steady;
  took = limit_took l p f C e rd rises steady;
  faults = limit_faults l p f C e rd rises steady;
}
