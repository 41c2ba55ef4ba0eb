-- Within the limits of a line, numbers and chains are read as the grammar is written.
use Rattle.std.proofs.Common.{◌≡◌, ℕ, ◌+◌, ◌-◌, ◌^◌, ◌<◌, ◌≤◌, min, false, pos, refl, sym, ap, ◌∙◌, arith}
use Rattle.std.specs.Prelude.{nat_lt, neg_ℤ}
use Rattle.std.proofs.lemmas.Bool.Decides.{nat_tests}
use Rattle.ifdb_syntax.specs.declared.expression.Expr.{Expr}
use Rattle.ifdb_syntax.specs.declared.expression.Expr.TheVariants as e
use Rattle.ifdb_syntax.specs.declared.expression.Expr.TheOpen.{Expr-F}
use Rattle.ifdb_syntax.specs.declared.expression.Expr.TheFolds.{fold-Expr, fold-roll-Expr}
use Rattle.ifdb_syntax.specs.Reading.{operators, operators_step, joined, bounded, written}

pub operators-Add : (a b : Expr) → operators (e.Add a b) ≡ min 65 (operators a + operators b + 1)
unfolding operators
operators-Add a b = ap (fold-Expr ℕ operators_step) (sym (e.rolls-Add a b)) ∙ fold-roll-Expr ℕ operators_step (Expr-F.Add a b)

pub operators-Sub : (a b : Expr) → operators (e.Sub a b) ≡ min 65 (operators a + operators b + 1)
unfolding operators
operators-Sub a b = ap (fold-Expr ℕ operators_step) (sym (e.rolls-Sub a b)) ∙ fold-roll-Expr ℕ operators_step (Expr-F.Sub a b)

pub operators-Mul : (a b : Expr) → operators (e.Mul a b) ≡ min 65 (operators a + operators b + 1)
unfolding operators
operators-Mul a b = ap (fold-Expr ℕ operators_step) (sym (e.rolls-Mul a b)) ∙ fold-roll-Expr ℕ operators_step (Expr-F.Mul a b)

not_more : (n : ℕ) → n ≤ 64 → nat_lt 64 n ≡ false
not_more n h = grind (arith, nat_tests)

both_by : (op : Expr → Expr → Expr) (a b : Expr) → operators a ≤ 64 → operators b ≤ 64 → joined op a b ≡ op a b
unfolding joined
both_by op a b ha hb = rw (not_more (operators a) ha, not_more (operators b) hb) refl

joined_by : (op : Expr → Expr → Expr) (a b : Expr) → operators (op a b) ≡ min 65 (operators a + operators b + 1) → operators (op a b) ≤ 64 → joined op a b ≡ op a b
joined_by op a b h le = both_by op a b (omega arith) (omega arith)

pub joined-Add : (a b : Expr) → operators (e.Add a b) ≤ 64 → bounded.join e.Add a b ≡ e.Add a b
joined-Add a b = joined_by e.Add a b (operators-Add a b)

pub joined-Sub : (a b : Expr) → operators (e.Sub a b) ≤ 64 → bounded.join e.Sub a b ≡ e.Sub a b
joined-Sub a b = joined_by e.Sub a b (operators-Sub a b)

pub joined-Mul : (a b : Expr) → operators (e.Mul a b) ≤ 64 → bounded.join e.Mul a b ≡ e.Mul a b
joined-Mul a b = joined_by e.Mul a b (operators-Mul a b)

plain_number : (n : ℕ) → n < 2 ^ 63 → bounded.plain n ≡ written.plain n
plain_number n h = let k : min n (2 ^ 63 - 1) ≡ n = omega arith in ap pos k

negated_number : (n : ℕ) → n ≤ 2 ^ 63 → bounded.negated n ≡ written.negated n
negated_number n h = let k : min n (2 ^ 63) ≡ n = omega arith in ap (λ (m : ℕ). neg_ℤ (pos m)) k

pub operators_read_alike : (a b : Expr) → (operators (e.Add a b) ≤ 64 → bounded.join e.Add a b ≡ e.Add a b) × (operators (e.Sub a b) ≤ 64 → bounded.join e.Sub a b ≡ e.Sub a b) × (operators (e.Mul a b) ≤ 64 → bounded.join e.Mul a b ≡ e.Mul a b)
operators_read_alike a b = (joined-Add a b, joined-Sub a b, joined-Mul a b)

pub numbers_read_alike : (n : ℕ) → (n < 2 ^ 63 → bounded.plain n ≡ written.plain n) × (n ≤ 2 ^ 63 → bounded.negated n ≡ written.negated n)
numbers_read_alike n = (plain_number n, negated_number n)
