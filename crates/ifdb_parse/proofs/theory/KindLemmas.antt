-- Sets of kinds, and what stops at them.
use Rattle.std.proofs.Common.{◌≡◌, ℕ, Bool, true, false, [], ◌∷◌, ◌++◌, refl, sym, ◌∙◌, inl, inr}
use Rattle.std.specs.Prelude.{◌||◌, not, ◌==◌}
use Rattle.std.proofs.lemmas.Bool.{and_parts, or_cases, or_parts, eqb-true, not-true, both_ways, false_from_ne_true}
use Rattle.ifdb_syntax.specs.declared.lexeme.Lexeme.{Lexeme}
use Rattle.ifdb_syntax.specs.Words.{Lexemes, kind}
use Rattle.ifdb_parse.specs.theory.Kinds.{Kinds, mem, subset, apart, sees}
use Rattle.ifdb_parse.specs.theory.Parser.{choose}
use Rattle.ifdb_parse.specs.theory.Reads.{Stops, Starts}

pub mem-subset : (n : ℕ) (ns ms : Kinds) → subset ns ms ≡ true → mem n ns ≡ true → mem n ms ≡ true
mem-subset n [] ms h e = absurd cc
mem-subset n (x ∷ ns) ms h e =
    let parts = and_parts (mem x ms) (subset ns ms) h in
    elim (or_cases (n == x) (mem n ns) e) [
      | inl same ↦ rw (eqb-true n x same) parts.0
      | inr later ↦ mem-subset n ns ms parts.1 later
    ]

pub mem-apart : (n : ℕ) (ns ms : Kinds) → apart ns ms ≡ true → mem n ns ≡ true → mem n ms ≡ false
mem-apart n [] ms h e = absurd cc
mem-apart n (x ∷ ns) ms h e =
    let parts = and_parts (not (mem x ms)) (apart ns ms) h in
    elim (or_cases (n == x) (mem n ns) e) [
      | inl same ↦ rw (eqb-true n x same) (not-true (mem x ms) parts.0)
      | inr later ↦ mem-apart n ns ms parts.1 later
    ]

pub mem-append : (n : ℕ) (ns ms : Kinds) → mem n (ns ++ ms) ≡ (mem n ns || mem n ms)
mem-append n [] ms = refl
mem-append n (x ∷ ns) ms = rw (mem-append n ns ms) (or_assoc (n == x) (mem n ns) (mem n ms))
  where
    or_assoc : (a b c : Bool) → (a || (b || c)) ≡ ((a || b) || c)
    or_assoc true b c = refl
    or_assoc false b c = refl

pub Stops-subset : (ns ms : Kinds) (v : Lexemes) → subset ns ms ≡ true → Stops ms v → Stops ns v
Stops-subset ns ms [] h s = refl
Stops-subset ns ms (t ∷ v) h s = false_from_ne_true (mem (kind t) ns) (λ e. both_ways (mem (kind t) ms) s (mem-subset (kind t) ns ms h e))

pub Stops-append : (ns ms : Kinds) (v : Lexemes) → Stops (ns ++ ms) v → Stops ns v × Stops ms v
Stops-append ns ms [] s = (refl, refl)
Stops-append ns ms (t ∷ v) s = or_parts (mem (kind t) ns) (mem (kind t) ms) (sym (mem-append (kind t) ns ms) ∙ s)

pub Starts-subset : (ns ms : Kinds) (e : Bool) (u : Lexemes) → subset ns ms ≡ true → Starts ns e u → Starts ms e u
Starts-subset ns ms e [] h s = s
Starts-subset ns ms e (t ∷ u) h s = mem-subset (kind t) ns ms h s

-- behind a word that begins with these kinds, or is empty, nothing of the others comes
pub Stops-after : (g C D : Kinds) (d : Bool) (u v : Lexemes) → apart g C ≡ true → Starts g d u → Stops (choose d (C ++ D) D) v → Stops C (u ++ v)
Stops-after g C D true [] v a st s = (Stops-append C D v s).0
Stops-after g C D false [] v a st s = absurd cc
Stops-after g C D d (t ∷ u) v a st s = mem-apart (kind t) g C a st

pub Stops-choose : (C D : Kinds) (d : Bool) (v : Lexemes) → Stops (choose d (C ++ D) D) v → Stops D v
Stops-choose C D true v s = (Stops-append C D v s).1
Stops-choose C D false v s = s

pub sees-same : (ks : Kinds) (u : Lexemes) (t : Lexeme) (x w : Lexemes) → sees ks (u ++ t ∷ x) ≡ sees ks (u ++ t ∷ w)
sees-same ks [] t x w = refl
sees-same ks (c ∷ u) t x w = refl

pub Starts-sees : (ks : Kinds) (u v : Lexemes) → Starts ks false u → sees ks (u ++ v) ≡ true
Starts-sees ks [] v s = absurd cc
Starts-sees ks (t ∷ u) v s = s
