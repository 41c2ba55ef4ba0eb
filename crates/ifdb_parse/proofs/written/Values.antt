-- The numbers of expressions and conditions are those of their lexemes.
use Rattle.std.proofs.Common.{◌≡◌, ℕ, zero, suc, ◌^◌, Bool, true, false, List, [], ◌∷◌, ◌++◌, Some, None, refl, sym, ap, ◌∙◌, arith}
use Rattle.std.specs.Prelude.{◌&&◌, nat_le}
use Rattle.std.specs.List.{list_all}
use Rattle.std.proofs.lemmas.Bool.Decides.{nat_tests}
use Rattle.ifdb_value.specs.declared.value.Value.TheVariants as value
use Rattle.ifdb_value.specs.declared.value.Compare.{Compare}
use Rattle.ifdb_syntax.specs.declared.lexeme.Lexeme.{Lexeme}
use Rattle.ifdb_syntax.specs.declared.lexeme.Lexeme.TheVariants as t
use Rattle.ifdb_syntax.specs.declared.expression.Expr.{Expr}
use Rattle.ifdb_syntax.specs.declared.expression.Expr.TheVariants as e
use Rattle.ifdb_syntax.specs.declared.condition.Cond.{Cond}
use Rattle.ifdb_syntax.specs.Words.{AND, CLOSE, COMMA, DOT, IS, MINUS, NOT, NULL, OPEN, OR, PLUS, STAR, WHERE}
use Rattle.ifdb_syntax.specs.Lang.{Lang, Then, nothing, token, parens, next_member, separated, commas, repeat}
use Rattle.ifdb_syntax.specs.Reading.{written}
use Rattle.ifdb_syntax.specs.Expressions as g
use Rattle.ifdb_syntax.specs.Conditions as h
use Rattle.ifdb_parse.specs.declared.limits.Before.{Before}
use Rattle.ifdb_parse.specs.declared.limits.Before.TheVariants as before
use Rattle.ifdb_parse.specs.TreeLimits.{behind}
use Rattle.ifdb_syntax.specs.Within.{value_fits, expr_fits, operand_fits, cond_fits, condition_fits}
use Rattle.ifdb_parse.proofs.written.Tally.{Tallies, other, operand, sign, fits_behind, all_fit, and_assoc, nothing_tallies, then_tallies, or_tallies, some_tallies, repeat_tallies, token_tallies, name_tallies, text_tallies, number_tallies, negated_tallies, and_true}
use Rattle.ifdb_parse.proofs.written.Forms.{expr_fits-Column, expr_fits-Literal, expr_fits-Add, expr_fits-Sub, expr_fits-Mul, cond_fits-Not, cond_fits-Compare, cond_fits-IsNull, cond_fits-and_of, cond_fits-or_of, all-last, all-one}

-- ---- parentheses

open_tallies : {P : Before → Type 0} {known : Bool} → Tallies (token OPEN) P known (λ _. known) other
open_tallies = token_tallies OPEN t.Open refl refl (λ last p. (refl, refl))

close_tallies : {P : Before → Type 0} {known : Bool} → Tallies (token CLOSE) P known (λ _. known) operand
close_tallies = token_tallies CLOSE t.Close refl refl (λ last p. (refl, refl))

pub parens_tallies : {A : Type 0} {l : Lang A} {P Q : Before → Type 0} {known : Bool} {f : A → Bool} → Tallies l other known f Q → Tallies (parens l) P known f operand
parens_tallies tl = then_tallies open_tallies (λ _. then_tallies tl (λ x. then_tallies close_tallies (λ _. nothing_tallies x refl)))

-- ---- lists

next_tallies : {A : Type 0} {l : Lang A} {f : A → Bool} {P Q : Before → Type 0} (k : ℕ) → ((known : Bool) → Tallies (token k) Q known (λ _. known) P) → ((known : Bool) → Tallies l P known (λ a. known && f a) Q) → (known : Bool) (found : List A) → Tallies (next_member k l found) Q (known && list_all f found) (λ xs. known && list_all f xs) Q
next_tallies {f} k tk tl known found =
    then_tallies (tk (known && list_all f found)) (λ _. then_tallies (tl (known && list_all f found)) (λ x.
    nothing_tallies (found ++ x ∷ []) (sym (and_assoc known (list_all f found) (f x)) ∙ ap (λ z. known && z) (sym (all-last f found x)))))

pub separated_tallies : {A : Type 0} {l : Lang A} {f : A → Bool} {P Q : Before → Type 0} (k : ℕ) → ((known : Bool) → Tallies (token k) Q known (λ _. known) P) → ((known : Bool) → Tallies l P known (λ a. known && f a) Q) → (known : Bool) → Tallies (separated k l) P known (λ xs. known && list_all f xs) Q
separated_tallies {A} {l} {f} {P} {Q} k tk tl known = then_tallies (tl known) first
  where
    first : (x : A) → Tallies (repeat (next_member k l) (x ∷ [])) Q (known && f x) (λ xs. known && list_all f xs) Q
    first x =
        let more = repeat_tallies (next_member k l) (λ xs. known && list_all f xs) (next_tallies k tk tl known) (x ∷ []) in
        record { tells = λ u a last h p. let now = more.tells u a last h p in (ap (λ z. (known && z) && all_fit last u) (sym (all-one f x)) ∙ now.0, now.1) }

pub commas_tallies : {A : Type 0} {l : Lang A} {f : A → Bool} {Q : Before → Type 0} → ((known : Bool) → Tallies l other known (λ a. known && f a) Q) → (known : Bool) → Tallies (commas l) other known (λ xs. known && list_all f xs) Q
commas_tallies tl known = separated_tallies COMMA (λ known. token_tallies COMMA t.Comma refl refl (λ last p. (refl, refl))) tl known

-- ---- expressions

pub ref_tallies : {P : Before → Type 0} {known : Bool} → Tallies g.ref P known (λ _. known) operand
ref_tallies {P} {known} =
    then_tallies name_tallies (λ n. or_tallies
    (then_tallies (token_tallies {Q = other} DOT t.Dot refl refl (λ last p. (refl, refl))) (λ _. then_tallies name_tallies (λ c. nothing_tallies _ refl)))
    (nothing_tallies _ refl))

negated_fits : (n : ℕ) → nat_le n (2 ^ 63) ≡ value_fits (value.Int (written.negated n))
negated_fits zero = refl
negated_fits (suc n) = grind (arith, nat_tests)

pub literal_tallies : (known : Bool) → Tallies (g.literal written) other known (λ v. known && value_fits v) operand
literal_tallies known =
    or_tallies (or_tallies (or_tallies
    (then_tallies number_tallies (λ n. nothing_tallies _ refl))
    (then_tallies (token_tallies {Q = sign} MINUS t.Minus refl refl (λ last p. (refl, rw p refl))) (λ _.
    then_tallies negated_tallies (λ n. nothing_tallies _ (ap (λ z. known && z) (negated_fits n))))))
    (then_tallies text_tallies (λ w. nothing_tallies _ (sym (and_true known)))))
    (then_tallies (token_tallies {Q = operand} NULL t.Null refl refl (λ last p. (refl, refl))) (λ _. nothing_tallies _ (sym (and_true known))))

abbrev Known : Lang Expr → Type 0
Known l = (known : Bool) → Tallies l other known (λ x. known && expr_fits x) operand

atom_tallies : Known (g.atom written)
atom_tallies known =
    or_tallies (then_tallies ref_tallies (λ c. nothing_tallies _ (sym (and_true known) ∙ ap (λ z. known && z) (sym (expr_fits-Column c)))))
    (then_tallies (literal_tallies known) (λ v. nothing_tallies _ (ap (λ z. known && z) (sym (expr_fits-Literal v)))))

factor_tallies : (l : Lang Expr) → Known l → Known (g.factor written l)
factor_tallies l tl known = or_tallies (atom_tallies known) (parens_tallies (tl known))

-- an operator, and its right operand
round_tallies : (l : Lang Expr) → Known l → (k : ℕ) → ((known : Bool) → Tallies (token k) operand known (λ _. known) other) → (op : Expr → Expr → Expr) → ((a b : Expr) → expr_fits (op a b) ≡ (expr_fits a && expr_fits b)) → (known : Bool) (left : Expr) → Tallies (λ u x. Then (token k) (λ _ u x. Then l (λ right. nothing (op left right)) u x) u x) operand (known && expr_fits left) (λ x. known && expr_fits x) operand
round_tallies l tl k tk op by known left =
    then_tallies (tk (known && expr_fits left)) (λ _. then_tallies (tl (known && expr_fits left)) (λ right.
    nothing_tallies _ (sym (and_assoc known (expr_fits left) (expr_fits right)) ∙ ap (λ z. known && z) (sym (by left right)))))

term_tallies : (l : Lang Expr) → Known l → Known (g.term written l)
term_tallies l tl known =
    then_tallies (tl known) (repeat_tallies (g.product_round written l) (λ x. known && expr_fits x)
    (round_tallies l tl STAR (λ known. token_tallies STAR t.Star refl refl (λ last p. (refl, refl))) e.Mul expr_fits-Mul known))

sum_tallies : (l : Lang Expr) → Known l → Known (g.sum written l)
sum_tallies l tl known =
    then_tallies (tl known) (repeat_tallies (g.sum_round written l) (λ x. known && expr_fits x) (λ left. or_tallies
    (round_tallies l tl PLUS (λ known. token_tallies PLUS t.Plus refl refl (λ last p. (refl, refl))) e.Add expr_fits-Add known left)
    (round_tallies l tl MINUS (λ known. token_tallies MINUS t.Minus refl refl (λ last p. (refl, rw p refl))) e.Sub expr_fits-Sub known left)))

expr_upto_tallies : (n : ℕ) → Known (g.expr_upto written n)
expr_upto_tallies zero = sum_tallies _ (term_tallies _ atom_tallies)
expr_upto_tallies (suc n) = sum_tallies _ (term_tallies _ (factor_tallies _ (expr_upto_tallies n)))

pub expr_tallies : (known : Bool) → Tallies (g.expr written) other known (λ x. known && expr_fits x) operand
expr_tallies known = some_tallies (g.expr_upto written) (λ n. expr_upto_tallies n known)

-- ---- conditions

operand_tallies : (known : Bool) → Tallies (h.operand written) other known (λ x. known && operand_fits x) operand
operand_tallies known =
    or_tallies (then_tallies ref_tallies (λ c. nothing_tallies _ (sym (and_true known))))
    (then_tallies (literal_tallies known) (λ v. nothing_tallies _ refl))

compare_tells : (known : Bool) (a : Compare) (last : Before) (x : Lexeme) → h.compare_of x ≡ Some a → ((known && (fits_behind x last && true)) ≡ known) × (behind last x ≡ before.Other)
compare_tells known a last t.Equal e = (and_true known, refl)
compare_tells known a last t.NotEqual e = (and_true known, refl)
compare_tells known a last t.Less e = (and_true known, refl)
compare_tells known a last t.AtMost e = (and_true known, refl)
compare_tells known a last t.Greater e = (and_true known, refl)
compare_tells known a last t.AtLeast e = (and_true known, refl)
compare_tells known a last _ e = absurd cc

compare_tallies : {P : Before → Type 0} {known : Bool} → Tallies h.compare P known (λ _. known) other
compare_tallies {known} = record { tells = λ u a last k p. rw k.1 (compare_tells known a last k.0 k.2) }

abbrev Knows : Lang Cond → Type 0
Knows l = (known : Bool) → Tallies l other known (λ x. known && cond_fits x) operand

negation_tallies : {known : Bool} → Tallies h.negation other known (λ _. known) other
negation_tallies =
    or_tallies (then_tallies (token_tallies {Q = other} NOT t.Not refl refl (λ last p. (refl, refl))) (λ _. nothing_tallies _ refl))
    (nothing_tallies _ refl)

comparison_tallies : Knows (h.comparison written)
comparison_tallies known =
    then_tallies (operand_tallies known) (λ a. or_tallies
    (then_tallies compare_tallies (λ how. then_tallies (operand_tallies (known && operand_fits a)) (λ b.
    nothing_tallies _ (sym (and_assoc known (operand_fits a) (operand_fits b)) ∙ ap (λ z. known && z) (sym (cond_fits-Compare a how b))))))
    (then_tallies (token_tallies {Q = other} IS t.Is refl refl (λ last p. (refl, refl))) (λ _. then_tallies negation_tallies (λ n.
    then_tallies (token_tallies {Q = operand} NULL t.Null refl refl (λ last p. (refl, refl))) (λ _.
    nothing_tallies _ (ap (λ z. known && z) (sym (cond_fits-IsNull a n))))))))

negated_tally : (l : Lang Cond) → Knows l → Knows (h.negated l)
negated_tally l tl known = some_tallies (h.negated_upto l) (λ n. upto n known)
  where
    upto : (n : ℕ) → Knows (h.negated_upto l n)
    upto zero known = tl known
    upto (suc n) known =
        or_tallies (then_tallies (token_tallies {Q = other} NOT t.Not refl refl (λ last p. (refl, refl))) (λ _.
        then_tallies (upto n known) (λ x. nothing_tallies _ (ap (λ z. known && z) (sym (cond_fits-Not x)))))) (tl known)

conj_tallies : (l : Lang Cond) → Knows l → Knows (h.conj l)
conj_tallies l tl known =
    then_tallies (separated_tallies AND (λ known. token_tallies AND t.And refl refl (λ last p. (refl, refl))) tl known) (λ parts.
    nothing_tallies _ (ap (λ z. known && z) (sym (cond_fits-and_of parts))))

disj_tallies : (l : Lang Cond) → Knows l → Knows (h.disj l)
disj_tallies l tl known =
    then_tallies (separated_tallies OR (λ known. token_tallies OR t.Or refl refl (λ last p. (refl, refl))) tl known) (λ parts.
    nothing_tallies _ (ap (λ z. known && z) (sym (cond_fits-or_of parts))))

cond_upto_tallies : (n : ℕ) → Knows (h.cond_upto written n)
cond_upto_tallies zero = disj_tallies _ (conj_tallies _ (negated_tally _ comparison_tallies))
cond_upto_tallies (suc n) =
    disj_tallies _ (conj_tallies _ (negated_tally _ (λ known. or_tallies (parens_tallies (cond_upto_tallies n known)) (comparison_tallies known))))

pub cond_tallies : (known : Bool) → Tallies (h.cond written) other known (λ x. known && cond_fits x) operand
cond_tallies known = some_tallies (h.cond_upto written) (λ n. cond_upto_tallies n known)

-- where it is left out, nothing changes
pub condition_tallies : (known : Bool) → Tallies (h.condition written) operand known (λ x. known && condition_fits x) operand
condition_tallies known =
    or_tallies (then_tallies (then_tallies (token_tallies {Q = other} WHERE t.Where refl refl (λ last p. (refl, refl))) (λ _. cond_tallies known)) (λ x. nothing_tallies _ refl))
    (nothing_tallies None (sym (and_true known)))
