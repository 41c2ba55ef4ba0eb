-- Repetition: what reads a round reads any number of them.
use Rattle.std.proofs.Common.{◌≡◌, ℕ, zero, suc, true, false, [], ◌∷◌, ◌++◌, refl, sym, ◌∙◌, inl, inr}
use Rattle.std.specs.Prelude.{◌==◌}
use Rattle.std.proofs.lemmas.Bool.{or_cases, or_right, or_left, and_from, eq-eqb}
use Rattle.ifdb_syntax.specs.Words.{Lexemes}
use Rattle.ifdb_parse.specs.theory.Kinds.{Kinds, mem, subset, apart}
use Rattle.ifdb_syntax.specs.Lang.{Lang, rounds, repeat}
use Rattle.ifdb_parse.specs.theory.Parser.{Parser, rounds_by, repeat_by}
use Rattle.ifdb_parse.specs.theory.Reads.{Reads}
use Rattle.ifdb_parse.proofs.theory.KindLemmas.{mem-append}
use Rattle.ifdb_parse.proofs.theory.Combine.{nothing_reads, then_reads, branch_reads, widen}
use Rattle.ifdb_parse.proofs.theory.Limit.{limit_reads}
use Rattle.ifdb_parse.proofs.theory.Rounds.{steady, turns}

-- ---- inclusion

subset_from : (ns ms : Kinds) → ((n : ℕ) → mem n ns ≡ true → mem n ms ≡ true) → subset ns ms ≡ true
subset_from [] ms h = refl
subset_from (x ∷ ns) ms h =
    and_from (mem x ms) (subset ns ms) (h x (or_left (x == x) (mem x ns) (eq-eqb x x refl)))
    (subset_from ns ms (λ n i. h n (or_right (n == x) (mem n ns) i)))

mem_cases : (n : ℕ) (ns ms ks : Kinds) → (mem n ns ≡ true → mem n ks ≡ true) → (mem n ms ≡ true → mem n ks ≡ true) → mem n (ns ++ ms) ≡ true → mem n ks ≡ true
mem_cases n ns ms ks h k e = elim (or_cases (mem n ns) (mem n ms) (sym (mem-append n ns ms) ∙ e)) [ inl i ↦ h i | inr i ↦ k i ]

mem_left : (n : ℕ) (ns ms : Kinds) → mem n ns ≡ true → mem n (ns ++ ms) ≡ true
mem_left n ns ms i = mem-append n ns ms ∙ or_left (mem n ns) (mem n ms) i

mem_right : (n : ℕ) (ns ms : Kinds) → mem n ms ≡ true → mem n (ns ++ ms) ≡ true
mem_right n ns ms i = mem-append n ns ms ∙ or_right (mem n ns) (mem n ms) i

module _ {X : Type 0} (l : X → Lang X) (p : X → Parser X) (f C : Kinds) (rd : (x : X) → Reads (l x) (p x) f false C) (fit : apart f C ≡ true) where
  rounds_reads : (n : ℕ) (x : X) → Reads (rounds l n x) (rounds_by f p n x) f true (C ++ f)
  rounds_reads zero x = widen f (C ++ f) (nothing_reads x) refl refl
  rounds_reads (suc n) x =
      widen f (C ++ f) (branch_reads (then_reads (rd x) (rounds_reads n) fit) (nothing_reads x) refl)
      (subset_from (f ++ []) f (λ n i. mem_cases n f [] f (λ h. h) (λ h. absurd cc) i))
      (subset_from ((C ++ (C ++ f)) ++ f) (C ++ f)
      (λ n i. mem_cases n (C ++ (C ++ f)) f (C ++ f)
      (λ h. mem_cases n C (C ++ f) (C ++ f) (λ h. mem_left n C f h) (λ h. h) h)
      (λ h. mem_right n C f h) i))

  rises : (n : ℕ) (x : X) (u : Lexemes) (a : X) → rounds l n x u a → rounds l (suc n) x u a
  rises zero x u a h = inr h
  rises (suc n) x u a (inl h) = inl (record { front = h.front; back = h.back; value = h.value; parts = h.parts; first = h.first; second = rises n h.value h.back a h.second })
  rises (suc n) x u a (inr h) = inr h

  pub repeat_reads : (x : X) → Reads (repeat l x) (repeat_by f p x) f true (C ++ f)
  unfolding repeat_by
  repeat_reads x = limit_reads (λ n. rounds l n x) (λ n. rounds_by f p n x) f (C ++ f) true (λ n. rounds_reads n x) (λ n u a h. rises n x u a h) (λ n s h. steady f p (turns rd) n x s h)
