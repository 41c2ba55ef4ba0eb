-- What reads a language decides it, and tells where it is left.
use Rattle.std.proofs.Common.{◌≡◌, ℕ, suc, Bool, [], ◌∷◌, ◌++◌, length, Ok, Err, refl, sym, ap, subst, ◌∙◌, append_assoc}
use Rattle.std.proofs.lemmas.List.{append-nil}
use Rattle.ifdb_syntax.specs.Words.{Lexemes}
use Rattle.ifdb_parse.specs.theory.Kinds.{Kinds}
use Rattle.ifdb_syntax.specs.Lang.{Lang}
use Rattle.ifdb_parse.specs.theory.Parser.{Outcome, Parser, ended, ended_at}
use Rattle.ifdb_parse.specs.theory.Reads.{Reads}
use Rattle.ifdb_syntax.specs.Fault.{IsFault}
use Rattle.ifdb_parse.proofs.theory.Combine.{done_is}

module _ {A : Type 0} (l : Lang A) (p : Parser A) (f C : Kinds) (e : Bool) (rd : Reads l p f e C) where
  whole : (u : Lexemes) (a : A) → l u a → p u ≡ Ok (a, [])
  whole u a h = rw append-nil at (rd.complete u [] a h refl)

  pub ended_complete : (s : Lexemes) (a : A) → l s a → ended (p s) ≡ Ok a
  ended_complete s a h = rw (whole s a h) refl

  ok_of : (s : Lexemes) (o : Outcome A) (a : A) → p s ≡ o → ended o ≡ Ok a → l s a
  ok_of s (Err k) a is e = absurd cc
  ok_of s (Ok x) a is e = go x.0 x.1 is e
    where
      go : (b : A) (r : Lexemes) → p s ≡ Ok (b, r) → ended_at b r ≡ Ok a → l s a
      go b [] is e =
          let k = rd.took s b [] is in
          let same : b ≡ a = cc in
          subst (λ (z : Lexemes). l z a) (sym (k.parts ∙ append-nil k.used)) (subst (λ (z : A). l k.used z) same k.spelled)
      go b (t ∷ r) is e = absurd cc

  pub ended_ok : (s : Lexemes) (a : A) → ended (p s) ≡ Ok a → l s a
  ended_ok s a e = ok_of s (p s) a refl e

  err_of : (s : Lexemes) (o : Outcome A) (n : ℕ) → p s ≡ o → ended o ≡ Err n → IsFault l s n
  err_of s (Err k) n is e =
      let same : k ≡ n = cc in
      let h = rd.faults s k is in
      record {
        used = h.used;
        rest = h.rest;
        parts = h.parts;
        counts = h.counts ∙ same;
        begins = record { tail = h.tail; value = h.value; spelled = h.goes_on };
        ends = λ t x hr b. h.dead t x b.tail ((h.used ++ t ∷ []) ++ b.tail) [] b.value hr (sym (append_assoc h.used (t ∷ []) b.tail) ∙ sym (append-nil ((h.used ++ t ∷ []) ++ b.tail))) b.spelled refl;
        refused = λ a hl. let o : p s ≡ Ok (a, []) = whole s a hl in cc;
      }
  err_of s (Ok x) n is e = go x.0 x.1 is e
    where
      go : (b : A) (r : Lexemes) → p s ≡ Ok (b, r) → ended_at b r ≡ Err n → IsFault l s n
      go b [] is e = absurd cc
      go b (t ∷ r) is e =
          let k = rd.took s b (t ∷ r) is in
          record {
            used = k.used;
            rest = t ∷ r;
            parts = k.parts;
            counts = (let n-is : suc (length r) ≡ n = cc in n-is);
            begins = record { tail = []; value = b; spelled = subst (λ (z : Lexemes). l z b) (sym (append-nil k.used)) k.spelled };
            ends = λ c x hr h.
                let first : p (k.used ++ c ∷ h.tail) ≡ Ok (b, c ∷ h.tail) = k.again c x h.tail hr in
                let all : p (k.used ++ c ∷ h.tail) ≡ Ok (h.value, []) = ap p (sym (append_assoc k.used (c ∷ []) h.tail)) ∙ whole ((k.used ++ c ∷ []) ++ h.tail) h.value h.spelled in
                let none : c ∷ h.tail ≡ [] = (done_is b h.value (c ∷ h.tail) [] (sym first ∙ all)).1 in
                cc;
            refused = λ a hl.
                let none : t ∷ r ≡ [] = (done_is b a (t ∷ r) [] (sym is ∙ whole s a hl)).1 in
                cc;
          }

  pub ended_err : (s : Lexemes) (n : ℕ) → ended (p s) ≡ Err n → IsFault l s n
  ended_err s n e = err_of s (p s) n refl e
