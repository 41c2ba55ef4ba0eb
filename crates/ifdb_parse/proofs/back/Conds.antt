-- Conditions are written lightly.
use Rattle.std.proofs.Common.{◌≡◌, ℕ, zero, suc, Bool, true, false, List, [], ◌∷◌, ◌++◌, Some, None, refl, sym, ap, ◌∙◌, append-nil, append_assoc, inl, inr}
use Rattle.std.specs.Prelude.{◌⊎◌, nat_lt}
use Rattle.ifdb_value.specs.declared.value.Compare.{Compare}
use Rattle.ifdb_value.specs.declared.value.Compare.TheVariants as how
use Rattle.ifdb_syntax.specs.declared.lexeme.Lexeme.{Lexeme}
use Rattle.ifdb_syntax.specs.declared.lexeme.Lexeme.TheVariants as t
use Rattle.ifdb_syntax.specs.declared.condition.Cond.{Cond}
use Rattle.ifdb_syntax.specs.declared.condition.Cond.TheVariants as c
use Rattle.ifdb_syntax.specs.declared.place.CondPlace.{CondPlace}
use Rattle.ifdb_syntax.specs.declared.place.CondPlace.TheVariants as at
use Rattle.ifdb_syntax.specs.Words.{Lexemes, kind, NAME, AND, NOT, OR, WHERE, IS, NULL}
use Rattle.ifdb_syntax.specs.Lang.{Lang, Then, nothing, separated, parens}
use Rattle.ifdb_syntax.specs.Reading.{bounded}
use Rattle.ifdb_syntax.specs.Conditions.{operand as operand_rule, compare_of, compare, negation, comparison, or_of, and_of, negated_upto, negated, conj, disj, cond_upto, cond, condition}
use Rattle.ifdb_syntax.specs.canonical.Tokens as canon
use Rattle.ifdb_syntax.specs.canonical.Conditions.{or_enclosed, and_enclosed, operand_tokens, compare_token, null_test_tokens, cond_tokens}
use Rattle.ifdb_syntax.specs.canonical.Queries.{condition_tokens}
use Rattle.ifdb_syntax.proofs.ByForm.{each_cond}
use Rattle.ifdb_syntax.proofs.CondTokens.{cond_tokens-Or, cond_tokens-And, cond_tokens-Not, cond_tokens-Compare, cond_tokens-IsNull}
use Rattle.ifdb_parse.specs.declared.limits.Before.{Before}
use Rattle.ifdb_parse.specs.declared.limits.Before.TheVariants as before
use Rattle.ifdb_parse.specs.TreeLimits.{behind}
use Rattle.ifdb_parse.proofs.back.Lighter.{Flat, Lighter, same_lighter, parens_lighter, drop_parens_lighter}
use Rattle.ifdb_parse.proofs.back.Prints.{Prints, any, operand, other, whole, part, done, last, word, along, along_text, either, either_behind, in_some, members, any_all, inside}
use Rattle.ifdb_parse.proofs.back.Exprs.{ref_prints, literal_prints}

-- ---- comparisons

operand_prints : Prints before.Other operand (operand_rule bounded) any operand_tokens
operand_prints = either (whole (part _ (ref_prints before.Other) (λ r. done _ refl refl))) (whole (part _ literal_prints (λ v. done _ refl refl)))

the_same : (a b : Compare) → Some a ≡ Some b → a ≡ b
the_same a b e = cc

compare_is : (x : Lexeme) (found : Compare) → compare_of x ≡ Some found → compare_token found ≡ x
compare_is t.Equal found h = ap compare_token (sym (the_same how.Equal found h))
compare_is t.NotEqual found h = ap compare_token (sym (the_same how.NotEqual found h))
compare_is t.Less found h = ap compare_token (sym (the_same how.Less found h))
compare_is t.AtMost found h = ap compare_token (sym (the_same how.AtMost found h))
compare_is t.Greater found h = ap compare_token (sym (the_same how.Greater found h))
compare_is t.AtLeast found h = ap compare_token (sym (the_same how.AtLeast found h))
compare_is _ found h = absurd (cc)

same_compare : (b : Before) (how : Compare) → Lighter b before.Other (compare_token how ∷ []) (compare_token how ∷ [])
same_compare b how.Equal = same_lighter b t.Equal (λ k. refl)
same_compare b how.NotEqual = same_lighter b t.NotEqual (λ k. refl)
same_compare b how.Less = same_lighter b t.Less (λ k. refl)
same_compare b how.AtMost = same_lighter b t.AtMost (λ k. refl)
same_compare b how.Greater = same_lighter b t.Greater (λ k. refl)
same_compare b how.AtLeast = same_lighter b t.AtLeast (λ k. refl)

compare_prints : (b : Before) → Prints b other compare any (λ how. compare_token how ∷ [])
compare_prints b = record {
  goes = λ u how h e. along b before.Other (compare_token how ∷ []) (ap (λ (y : Lexeme). y ∷ []) (compare_is h.0 how h.2) ∙ sym h.1)
      (same_compare b how);
}

-- a condition in a place
abbrev pub at_place : CondPlace → Cond → Lexemes
at_place place x = cond_tokens x place

-- the NOT of IS NOT NULL
abbrev not_tokens : Bool → Lexemes
not_tokens true = t.Not ∷ []
not_tokens false = []

negation_prints : Prints before.Other other negation any not_tokens
negation_prints = either (whole (word t.Not NOT _ refl refl (λ k. refl) (done true refl refl))) (whole (done false refl refl))

null_text : (u : Lexemes) (n : Bool) → u ++ null_test_tokens n ≡ ((u ++ t.Is ∷ []) ++ not_tokens n) ++ t.Null ∷ []
null_text u true = sym (append_assoc (u ++ t.Is ∷ []) (t.Not ∷ []) (t.Null ∷ []) ∙ append_assoc u (t.Is ∷ []) (t.Not ∷ t.Null ∷ []))
null_text u false = sym (ap (λ (z : Lexemes). z ++ t.Null ∷ []) (append-nil (u ++ t.Is ∷ [])) ∙ append_assoc u (t.Is ∷ []) (t.Null ∷ []))

comparison_prints : (place : CondPlace) → Prints before.Other operand (comparison bounded) any (at_place place)
comparison_prints place =
    whole (part _ operand_prints (λ a. either_behind
    (part _ (compare_prints before.Operand) (λ how. part _ operand_prints (λ b.
    done (c.Compare a how b) refl (cond_tokens-Compare a how b place ∙ sym (append_assoc (operand_tokens a) (compare_token how ∷ []) (operand_tokens b))))))
    (word t.Is IS _ refl refl (λ k. refl) (part _ negation_prints (λ n. word t.Null NULL _ refl refl (λ k. refl)
    (done (c.IsNull a n) refl (cond_tokens-IsNull a n place ∙ null_text (operand_tokens a) n)))))))

-- ---- parentheses

abbrev Placed : Cond → Type 0
Placed x = (place : CondPlace) → (cond_tokens x place ≡ canon.enclosed (cond_tokens x at.Cond)) ⊎ (cond_tokens x place ≡ cond_tokens x at.Cond)

enclosed_or : (x : Cond) (u : Lexemes) (wanted : CondPlace → Bool) → ((place : CondPlace) → cond_tokens x place ≡ canon.enclosed_if (wanted place) u) →
    wanted at.Cond ≡ false → Placed x
enclosed_or x u wanted form free place = by_test (wanted place) refl
  where
    plain : cond_tokens x at.Cond ≡ u
    plain = form at.Cond ∙ (ap (λ (z : Bool). canon.enclosed_if z u) free ∙ append-nil u)

    by_test : (test : Bool) → wanted place ≡ test → (cond_tokens x place ≡ canon.enclosed (cond_tokens x at.Cond)) ⊎
        (cond_tokens x place ≡ cond_tokens x at.Cond)
    by_test true is = inl (form place ∙ (ap (λ (z : Bool). canon.enclosed_if z u) is ∙ ap canon.enclosed (sym plain)))
    by_test false is = inr (form place ∙ (ap (λ (z : Bool). canon.enclosed_if z u) is ∙ (append-nil u ∙ sym plain)))

placed : (x : Cond) → Placed x
placed = each_cond Placed (record {
  or_node = λ parts _. enclosed_or (c.Or parts) _ or_enclosed (cond_tokens-Or parts) refl;
  and_node = λ parts _. enclosed_or (c.And parts) _ and_enclosed (cond_tokens-And parts) refl;
  not_node = λ a _ place. inr (cond_tokens-Not a place ∙ sym (cond_tokens-Not a at.Cond));
  compare = λ a how b place. inr (cond_tokens-Compare a how b place ∙ sym (cond_tokens-Compare a how b at.Cond));
  null_test = λ a n place. inr (cond_tokens-IsNull a n place ∙ sym (cond_tokens-IsNull a n at.Cond));
})

enclosed_prints : (place : CondPlace) (l : Lang Cond) → Prints before.Other operand l any (at_place at.Cond) →
    Prints before.Other operand (parens l) any (at_place place)
enclosed_prints place l h = record {
  goes = λ u a k e.
      let i = inside l u a k in
      let within = h.goes i.within a i.spelled e in
      along before.Other before.Operand (cond_tokens a place) (sym i.parts) (elim (placed a place) [
        | inl is ↦ along_text before.Other before.Operand _ (sym is) (parens_lighter before.Other before.Operand (cond_tokens a at.Cond) i.within within)
        | inr is ↦ along_text before.Other before.Operand _ (sym is) (drop_parens_lighter (cond_tokens a at.Cond) i.within within)
      ]);
}

-- ---- NOT, AND and OR

-- in each place
abbrev Everywhere : Lang Cond → Type 0
Everywhere l = (place : CondPlace) → Prints before.Other operand l any (at_place place)

negated_upto_prints : (l : Lang Cond) → Everywhere l → (n : ℕ) → Everywhere (negated_upto l n)
negated_upto_prints l h zero place = h place
negated_upto_prints l h (suc n) place =
    either (whole (word t.Not NOT _ refl refl (λ k. refl) (part _ (negated_upto_prints l h n at.Prim) (λ x. done (c.Not x) refl (cond_tokens-Not x place)))))
    (h place)

negated_prints : (l : Lang Cond) → Everywhere l → Everywhere (negated l)
negated_prints l h place = in_some (λ n. negated_upto_prints l h n place)

-- members, each in a place
in_chain : (k : Lexeme) (n : ℕ) (l : Lang Cond) (place : CondPlace) → kind k ≡ n → nat_lt (kind k) NAME ≡ true → Flat k →
    ((d : Before) → behind d k ≡ before.Other) → Prints before.Other operand l any (at_place place) →
    Prints before.Other operand (separated n l) any (canon.separated k (at_place place))
in_chain k n l place is_k low flat back h = record { goes = λ u a w e. (members before.Other k n is_k low flat back h).goes u a w (any_all a) }

-- one member is written in the place of the chain, and of several each in the place of a member
chain_goes : (node : List Cond → Cond) (place member : CondPlace) (k : Lexeme) →
    ((x y : Cond) (more : List Cond) → cond_tokens (node (x ∷ y ∷ more)) place ≡ canon.separated k (at_place member) (x ∷ y ∷ more)) →
    (cond_tokens (node []) place ≡ []) → ((x : Cond) → node (x ∷ []) ≡ x) → (parts : List Cond) (u : Lexemes) →
    Lighter before.Other before.Operand (canon.separated k (at_place place) parts) u →
    Lighter before.Other before.Operand (canon.separated k (at_place member) parts) u →
    Lighter before.Other before.Operand (cond_tokens (node parts) place) u
chain_goes node place member k form none one [] u h m = along_text before.Other before.Operand u (sym none) h
chain_goes node place member k form none one (x ∷ []) u h m =
    along_text before.Other before.Operand u (append-nil (cond_tokens x place) ∙ ap (λ (z : Cond). cond_tokens z place) (sym (one x))) h
chain_goes node place member k form none one (x ∷ y ∷ more) u h m = along_text before.Other before.Operand u (sym (form x y more)) m

-- the members, and what is made of them
chain_prints : (n : ℕ) (k : Lexeme) (l : Lang Cond) (node : List Cond → Cond) (place member : CondPlace) →
    Prints before.Other operand (separated n l) any (canon.separated k (at_place place)) →
    Prints before.Other operand (separated n l) any (canon.separated k (at_place member)) →
    ((x y : Cond) (more : List Cond) → cond_tokens (node (x ∷ y ∷ more)) place ≡ canon.separated k (at_place member) (x ∷ y ∷ more)) →
    (cond_tokens (node []) place ≡ []) → ((x : Cond) → node (x ∷ []) ≡ x) →
    Prints before.Other operand (λ u a. Then (separated n l) (λ parts. nothing (node parts)) u a) any (at_place place)
chain_prints n k l node place member h m form none one = record {
  goes = λ u a w e.
      let i = chain_goes node place member k form none one w.value w.front (h.goes w.front w.value w.first e) (m.goes w.front w.value w.first e) in
      along before.Other before.Operand (cond_tokens a place) (sym (append-nil w.front) ∙ (ap (λ (z : Lexemes). w.front ++ z) (sym w.second.0) ∙ sym w.parts))
      (along_text before.Other before.Operand w.front (ap (λ (z : Cond). cond_tokens z place) (sym w.second.1)) i);
}

conj_prints : (l : Lang Cond) → Everywhere l → (place : CondPlace) → and_enclosed place ≡ false → Prints before.Other operand (conj l) any (at_place place)
conj_prints l h place free =
    chain_prints AND t.And l and_of place at.Prim
    (in_chain t.And AND l place refl refl (λ k. refl) (λ d. refl) (h place)) (in_chain t.And AND l at.Prim refl refl (λ k. refl) (λ d. refl) (h at.Prim))
    (λ x y more. cond_tokens-And (x ∷ y ∷ more) place ∙
    (ap (λ (z : Bool). canon.enclosed_if z (canon.separated t.And (at_place at.Prim) (x ∷ y ∷ more))) free
    ∙ append-nil (canon.separated t.And (at_place at.Prim) (x ∷ y ∷ more))))
    (cond_tokens-And [] place ∙ ap (λ (z : Bool). canon.enclosed_if z []) free) (λ x. refl)

disj_prints : (l : Lang Cond) → Everywhere l → Prints before.Other operand (disj (conj l)) any (at_place at.Cond)
disj_prints l h =
    chain_prints OR t.Or (conj l) or_of at.Cond at.Conj
    (in_chain t.Or OR (conj l) at.Cond refl refl (λ k. refl) (λ d. refl) (conj_prints l h at.Cond refl))
    (in_chain t.Or OR (conj l) at.Conj refl refl (λ k. refl) (λ d. refl) (conj_prints l h at.Conj refl))
    (λ x y more. cond_tokens-Or (x ∷ y ∷ more) at.Cond ∙ append-nil (canon.separated t.Or (at_place at.Conj) (x ∷ y ∷ more)))
    (cond_tokens-Or [] at.Cond) (λ x. refl)

cond_upto_prints : (n : ℕ) → Prints before.Other operand (cond_upto bounded n) any (at_place at.Cond)
cond_upto_prints zero = disj_prints _ (negated_prints _ comparison_prints)
cond_upto_prints (suc n) = disj_prints _ (negated_prints _
    (λ place. either (enclosed_prints place (cond_upto bounded n) (cond_upto_prints n)) (comparison_prints place)))

cond_prints : Prints before.Other operand (cond bounded) any (at_place at.Cond)
cond_prints = in_some cond_upto_prints

pub condition_prints : Prints before.Operand operand (condition bounded) any condition_tokens
condition_prints =
    either
    (whole (part {g = λ x. t.Where ∷ cond_tokens x at.Cond} _ (whole (word t.Where WHERE _ refl refl (λ k. refl) (last cond_prints (λ a e. tt) (λ a. refl))))
    (λ x. done (Some x) refl refl)))
    (whole (done None refl refl))
