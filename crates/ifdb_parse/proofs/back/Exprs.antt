-- Columns, literals and expressions are written lightly.
use Rattle.std.proofs.Common.{◌≡◌, ℕ, zero, suc, ◌+◌, ◌-◌, ◌^◌, ◌<◌, ◌≤◌, min, Bool, true, false, pos, [], ◌∷◌, ◌++◌, refl, sym, ap, subst, ◌∙◌, append-nil, append_assoc, inl, inr, arith}
use Rattle.std.specs.Prelude.{◌⊎◌, neg_ℤ, nat_le, nat_lt, ◌==◌}
use Rattle.std.proofs.lemmas.Bool.Decides.{nat_tests}
use Rattle.ifdb_value.specs.declared.value.Value.TheVariants as value
use Rattle.ifdb_syntax.specs.declared.lexeme.Lexeme.{Lexeme}
use Rattle.ifdb_syntax.specs.declared.lexeme.Lexeme.TheVariants as t
use Rattle.ifdb_syntax.specs.declared.expression.Expr.{Expr}
use Rattle.ifdb_syntax.specs.declared.expression.Expr.TheVariants as e
use Rattle.ifdb_syntax.specs.declared.place.ExprPlace.{ExprPlace}
use Rattle.ifdb_syntax.specs.declared.place.ExprPlace.TheVariants as at
use Rattle.ifdb_syntax.specs.Words.{Lexemes, DOT, MINUS, PLUS, STAR, NULL}
use Rattle.ifdb_syntax.specs.Lang.{Lang, Then, nothing, rounds, token, number, parens}
use Rattle.ifdb_syntax.specs.Reading.{operators, joined, bounded}
use Rattle.ifdb_syntax.specs.Within.{expr_short}
use Rattle.ifdb_syntax.specs.Expressions.{ref, literal, atom, factor, product_round, term, sum_round, sum, expr_upto, expr}
use Rattle.ifdb_syntax.specs.canonical.Tokens as canon
use Rattle.ifdb_syntax.specs.canonical.Expressions.{sum_enclosed, product_enclosed, expr_tokens}
use Rattle.ifdb_syntax.proofs.BoundedReading.{operators-Add, operators-Sub, operators-Mul}
use Rattle.ifdb_syntax.proofs.ByForm.{each_expr}
use Rattle.ifdb_syntax.proofs.ExprTokens.{expr_tokens-Column, expr_tokens-Literal, expr_tokens-Add, expr_tokens-Sub, expr_tokens-Mul}
use Rattle.ifdb_parse.specs.declared.limits.Before.{Before}
use Rattle.ifdb_parse.specs.declared.limits.Before.TheVariants as before
use Rattle.ifdb_parse.proofs.back.Lighter.{Lighter, append_lighter, one_lighter, same_lighter, parens_lighter, drop_parens_lighter}
use Rattle.ifdb_parse.proofs.back.Prints.{Prints, Behind, ending, any, operand, whole, tested, part, end_if, done, token_is, word, name_prints, text_prints, number_is, along, along_text, either, either_behind, in_some, Grows, repeated, rounds_keep, inside}

-- ---- columns and literals

pub ref_prints : (b : Before) → Prints b operand ref any canon.ref_tokens
ref_prints b =
    whole (part _ (name_prints b) (λ n. either_behind
    (word t.Dot DOT _ refl refl (λ k. refl) (part _ (name_prints before.Other) (λ c. done _ refl refl)))
    (done _ refl refl)))

not_lone : (m : ℕ) → m < 2 ^ 63 → (m == 2 ^ 63) ≡ false
not_lone m h = grind (arith, nat_tests)

-- a number is written as the least of itself and the greatest value
plain_prints : Prints before.Other operand number any (λ n. t.Number (min n (2 ^ 63 - 1)) ∷ [])
plain_prints = record {
  goes = λ u n h e.
      along before.Other before.Operand (t.Number (min n (2 ^ 63 - 1)) ∷ []) (ap (λ (y : Lexeme). y ∷ []) (number_is h.0 n h.2) ∙ sym h.1)
      (one_lighter before.Other before.Operand (t.Number (min n (2 ^ 63 - 1))) (t.Number n) (λ k. refl) (λ k. refl) (λ s. omega arith) (omega arith) refl refl
      (λ _. not_lone (min n (2 ^ 63 - 1)) (omega arith)));
}

minus_lighter : (m n : ℕ) → m ≤ n → m ≤ 2 ^ 63 → Lighter before.Other before.Operand (canon.number_tokens (neg_ℤ (pos m))) (t.Minus ∷ t.Number n ∷ [])
minus_lighter zero n le top = record {
  sound = λ h. (omega arith, tt);
  fewer = omega arith;
  shallow = λ j k s r lo hi h f. let low : j ≤ 32 = omega arith in (low, h f.1.1);
  lone = λ s r h f. h f;
}
minus_lighter (suc m) n le top =
    append_lighter before.Other before.Sign before.Operand (t.Minus ∷ []) (t.Minus ∷ []) (t.Number (suc m) ∷ []) (t.Number n ∷ [])
    (same_lighter before.Other t.Minus (λ k. refl))
    (one_lighter before.Sign before.Operand (t.Number (suc m)) (t.Number n) (λ k. refl) (λ k. refl) (λ s. top) (omega arith) refl refl (λ _. refl))

negated_prints : Prints before.Other operand (λ u a. Then (token MINUS)
    (λ _. λ u a. Then number (λ n. nothing (value.Int (bounded.negated n))) u a) u a) any canon.literal_tokens
negated_prints = record {
  goes = λ u a h e.
      let k = h.second in
      let back : h.back ≡ t.Number k.value ∷ [] = k.parts
      ∙ (ap (λ (z : Lexemes). k.front ++ z) k.second.0 ∙
      (append-nil k.front ∙ (k.first.1 ∙ ap (λ (y : Lexeme). y ∷ []) (sym (number_is k.first.0 k.value k.first.2))))) in
      let all : u ≡ t.Minus ∷ t.Number k.value ∷ [] = h.parts
      ∙ (ap (λ (z : Lexemes). z ++ h.back) (token_is t.Minus MINUS h.front h.value refl refl h.first) ∙ ap (λ (z : Lexemes). t.Minus ∷ z) back) in
      along before.Other before.Operand (canon.literal_tokens a) (sym all)
      (along_text before.Other before.Operand _ (sym (ap canon.literal_tokens k.second.1))
      (minus_lighter (min k.value (2 ^ 63)) k.value (omega arith) (omega arith)));
}

pub literal_prints : Prints before.Other operand (literal bounded) any canon.literal_tokens
literal_prints =
    either (either (either (whole (part _ plain_prints (λ n. done _ refl refl))) negated_prints)
    (whole (part _ (text_prints before.Other) (λ w. done _ refl refl))))
    (whole (word t.Null NULL _ refl refl (λ k. refl) (done _ refl refl)))

-- ---- expressions

-- an expression in a place
abbrev pub at_place : ExprPlace → Expr → Lexemes
at_place place x = expr_tokens x place

atom_prints : (place : ExprPlace) → Prints before.Other operand (atom bounded) expr_short (at_place place)
atom_prints place =
    either (whole (part _ (ref_prints before.Other) (λ c. done _ refl (expr_tokens-Column c place))))
    (whole (part _ literal_prints (λ v. done _ refl (expr_tokens-Literal v place))))

-- in each place an expression has parentheses, or it has none
abbrev Placed : Expr → Type 0
Placed x = (place : ExprPlace) → (expr_tokens x place ≡ canon.enclosed (expr_tokens x at.Expr)) ⊎ (expr_tokens x place ≡ expr_tokens x at.Expr)

enclosed_or : (x : Expr) (u : Lexemes) (wanted : ExprPlace → Bool) → ((place : ExprPlace) → expr_tokens x place ≡ canon.enclosed_if (wanted place) u) →
    wanted at.Expr ≡ false → Placed x
enclosed_or x u wanted form free place = by_test (wanted place) refl
  where
    plain : expr_tokens x at.Expr ≡ u
    plain = form at.Expr ∙ (ap (λ (z : Bool). canon.enclosed_if z u) free ∙ append-nil u)

    by_test : (test : Bool) → wanted place ≡ test → (expr_tokens x place ≡ canon.enclosed (expr_tokens x at.Expr)) ⊎
        (expr_tokens x place ≡ expr_tokens x at.Expr)
    by_test true is = inl (form place ∙ (ap (λ (z : Bool). canon.enclosed_if z u) is ∙ ap canon.enclosed (sym plain)))
    by_test false is = inr (form place ∙ (ap (λ (z : Bool). canon.enclosed_if z u) is ∙ (append-nil u ∙ sym plain)))

placed : (x : Expr) → Placed x
placed = each_expr Placed (record {
  column = λ c place. inr (expr_tokens-Column c place ∙ sym (expr_tokens-Column c at.Expr));
  literal = λ v place. inr (expr_tokens-Literal v place ∙ sym (expr_tokens-Literal v at.Expr));
  add = λ a b _ _. enclosed_or (e.Add a b) _ sum_enclosed (expr_tokens-Add a b) refl;
  sub = λ a b _ _. enclosed_or (e.Sub a b) _ sum_enclosed (expr_tokens-Sub a b) refl;
  mul = λ a b _ _. enclosed_or (e.Mul a b) _ product_enclosed (expr_tokens-Mul a b) refl;
})

enclosed_prints : (place : ExprPlace) (l : Lang Expr) → Prints before.Other operand l expr_short (at_place at.Expr) →
    Prints before.Other operand (parens l) expr_short (at_place place)
enclosed_prints place l h = record {
  goes = λ u a k short.
      let i = inside l u a k in
      let within = h.goes i.within a i.spelled short in
      along before.Other before.Operand (expr_tokens a place) (sym i.parts) (elim (placed a place) [
        | inl is ↦ along_text before.Other before.Operand _ (sym is) (parens_lighter before.Other before.Operand (expr_tokens a at.Expr) i.within within)
        | inr is ↦ along_text before.Other before.Operand _ (sym is) (drop_parens_lighter (expr_tokens a at.Expr) i.within within)
      ]);
}

factor_prints : (place : ExprPlace) (l : Lang Expr) → Prints before.Other operand l expr_short (at_place at.Expr) →
    Prints before.Other operand (factor bounded l) expr_short (at_place place)
factor_prints place l h = either (atom_prints place) (enclosed_prints place l h)

-- where a chain stays within the limit, each operator is a node, and so are its operands within it
record Node (op : Expr → Expr → Expr) (a b : Expr) : Type 0 where
  same : joined op a b ≡ op a b
  left : expr_short a ≡ true
  right : expr_short b ≡ true

short_parts : (n a b : ℕ) → nat_le n 64 ≡ true → n ≡ min 65 (a + b + 1) → (nat_le a 64 ≡ true) × (nat_le b 64 ≡ true)
short_parts n a b h is = (grind (arith, nat_tests), grind (arith, nat_tests))

not_both : {A : Type 0} (n : ℕ) → nat_lt 64 n ≡ true → nat_le n 64 ≡ true → A
not_both n h k = absurd (grind (arith, nat_tests))

node_by : (op : Expr → Expr → Expr) (a b : Expr) (long_a long_b : Bool) → nat_lt 64 (operators a) ≡ long_a → nat_lt 64 (operators b) ≡ long_b →
    operators (op a b) ≡ min 65 (operators a + operators b + 1) → expr_short (joined op a b) ≡ true → Node op a b
unfolding joined
node_by op a b true long_b la lb count short = not_both (operators a) la (rw la at short)
node_by op a b false true la lb count short = not_both (operators b) lb (rw (la, lb) at short)
node_by op a b false false la lb count short =
    let s : expr_short (op a b) ≡ true = rw (la, lb) at short in
    let ab = short_parts (operators (op a b)) (operators a) (operators b) s count in
    record { same = rw (la, lb) refl; left = ab.0; right = ab.1 }

node : (op : Expr → Expr → Expr) (a b : Expr) → operators (op a b) ≡ min 65 (operators a + operators b + 1) → expr_short (joined op a b) ≡ true → Node op a b
node op a b count short = node_by op a b (nat_lt 64 (operators a)) (nat_lt 64 (operators b)) refl refl count short

module _ (F : Lang Expr) (h : (place : ExprPlace) → Prints before.Other operand F expr_short (at_place place)) where
  product_behind : (x : Expr) → Behind before.Other before.Operand (ending before.Other operand) (product_round bounded F x) expr_short (at_place at.Term)
      (expr_short x ≡ true) (expr_tokens x at.Term)
  product_behind x =
      word t.Star STAR _ refl refl (λ k. refl) (tested _ (h at.Factor) (λ right. end_if (joined e.Mul x right) refl
      (λ short. let n = node e.Mul x right (operators-Mul x right) short in (n.left, n.right))
      (λ short. ap (λ (z : Expr). expr_tokens z at.Term) (node e.Mul x right (operators-Mul x right) short).same
      ∙ (expr_tokens-Mul x right at.Term ∙ (append-nil _ ∙ sym (append_assoc (expr_tokens x at.Term) (t.Star ∷ []) (expr_tokens right at.Factor)))))))

  products_grow : Grows (λ _. true) before.Other operand (product_round bounded F) expr_short (at_place at.Term)
  products_grow = record { keeps = λ x u y k. refl; grows = λ x _. product_behind x }

  term_prints : Prints before.Other operand (term bounded F) expr_short (at_place at.Term)
  term_prints = whole (tested _ (h at.Term) (λ x. repeated x refl refl (λ short. (tt, short)) refl products_grow))

  -- a product is written alike in the place of a whole expression
  abbrev Alike : Expr → Type 0
  Alike y = expr_short y ≡ true → expr_tokens y at.Expr ≡ expr_tokens y at.Term

  product_alike : (x : Expr) (u : Lexemes) (y : Expr) → product_round bounded F x u y → Alike y
  product_alike x u y k short =
      let right = k.second.value in
      let is : y ≡ joined e.Mul x right = k.second.second.1 in
      let n = node e.Mul x right (operators-Mul x right) (subst (λ (z : Expr). expr_short z ≡ true) is short) in
      let whole_is : y ≡ e.Mul x right = is ∙ n.same in
      subst (λ (z : Expr). expr_tokens z at.Expr ≡ expr_tokens z at.Term) (sym whole_is)
      (expr_tokens-Mul x right at.Expr ∙ sym (expr_tokens-Mul x right at.Term))

  term_prints_expr : Prints before.Other operand (term bounded F) expr_short (at_place at.Expr)
  term_prints_expr = record { goes = λ u y k short. by_rounds u y k.value k.front k.back k.second.0 k.parts k.first k.second.1 short }
    where
      by_rounds : (u : Lexemes) (y x : Expr) (front back : Lexemes) (n : ℕ) → u ≡ front ++ back → F front x → rounds (product_round bounded F) n x back y →
          expr_short y ≡ true → Lighter before.Other before.Operand (expr_tokens y at.Expr) u
      by_rounds u y x front back zero parts first r short =
          along before.Other before.Operand (expr_tokens y at.Expr) (sym (append-nil front) ∙ (ap (λ (z : Lexemes). front ++ z) (sym r.0) ∙ sym parts))
          ((h at.Expr).goes front y (subst (λ (z : Expr). F front z) (sym r.1) first) short)
      by_rounds u y x front back (suc n) parts first (inr r) short =
          along before.Other before.Operand (expr_tokens y at.Expr) (sym (append-nil front) ∙ (ap (λ (z : Lexemes). front ++ z) (sym r.0) ∙ sym parts))
          ((h at.Expr).goes front y (subst (λ (z : Expr). F front z) (sym r.1) first) short)
      by_rounds u y x front back (suc n) parts first (inl r) short =
          let alike = rounds_keep Alike (product_round bounded F) product_alike n r.value r.back y (product_alike x r.front r.value r.first) r.second in
          along_text before.Other before.Operand u (sym (alike short))
          (term_prints.goes u y (record { front = front; back = back; value = x; parts = parts; first = first; second = (suc n, inl r) }) short)

  plus_behind : (x : Expr) → Behind before.Other before.Operand (ending before.Other operand) (sum_round bounded (term bounded F) x) expr_short
      (at_place at.Expr) (expr_short x ≡ true) (expr_tokens x at.Expr)
  plus_behind x =
      either_behind
      (word t.Plus PLUS _ refl refl (λ k. refl) (tested _ term_prints (λ right. end_if (joined e.Add x right) refl
      (λ short. let n = node e.Add x right (operators-Add x right) short in (n.left, n.right))
      (λ short. ap (λ (z : Expr). expr_tokens z at.Expr) (node e.Add x right (operators-Add x right) short).same
      ∙ (expr_tokens-Add x right at.Expr ∙ (append-nil _ ∙ sym (append_assoc (expr_tokens x at.Expr) (t.Plus ∷ []) (expr_tokens right at.Term))))))))
      (word t.Minus MINUS _ refl refl (λ k. refl) (tested _ term_prints (λ right. end_if (joined e.Sub x right) refl
      (λ short. let n = node e.Sub x right (operators-Sub x right) short in (n.left, n.right))
      (λ short. ap (λ (z : Expr). expr_tokens z at.Expr) (node e.Sub x right (operators-Sub x right) short).same
      ∙ (expr_tokens-Sub x right at.Expr ∙ (append-nil _ ∙ sym (append_assoc (expr_tokens x at.Expr) (t.Minus ∷ []) (expr_tokens right at.Term))))))))

  sum_prints : Prints before.Other operand (sum bounded (term bounded F)) expr_short (at_place at.Expr)
  sum_prints =
      whole (tested _ term_prints_expr (λ x. repeated x refl refl (λ short. (tt, short)) refl
      (record { keeps = λ y u z k. refl; grows = λ y (_ : true ≡ true). plus_behind y })))

expr_upto_prints : (n : ℕ) → Prints before.Other operand (expr_upto bounded n) expr_short (at_place at.Expr)
expr_upto_prints zero = sum_prints (atom bounded) atom_prints
expr_upto_prints (suc n) = sum_prints (factor bounded (expr_upto bounded n)) (λ place. factor_prints place (expr_upto bounded n) (expr_upto_prints n))

pub expr_prints : Prints before.Other operand (expr bounded) expr_short (at_place at.Expr)
expr_prints = in_some expr_upto_prints
