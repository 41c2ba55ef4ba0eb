-- decides: the grammar
-- How numbers and chains of operators are read: as the grammar is written, and within the limits of a line.
use Rattle.std.specs.Prelude.{ℕ, ◌+◌, ◌-◌, ◌^◌, min, ℤ, pos, neg_ℤ, nat_lt, if◌then◌else◌}
use Rattle.ifdb_syntax.specs.declared.expression.Expr.{Expr}
use Rattle.ifdb_syntax.specs.declared.expression.Expr.TheOpen.{Expr-F}
use Rattle.ifdb_syntax.specs.declared.expression.Expr.TheFolds.{fold-Expr}

pub record Reading : Type 0 where
  -- what a literal `n` stands for
  pub plain : ℕ → ℤ
  -- what a literal `- n` stands for
  pub negated : ℕ → ℤ
  -- what an operator makes of two operands
  pub join : (Expr → Expr → Expr) → Expr → Expr → Expr

-- the written grammar: a number is itself, and each operator is a node
abbrev pub written : Reading
written = record { plain = pos; negated = λ n. neg_ℤ (pos n); join = λ op. op }

-- ---- the same for a reader whose trees are bounded

abbrev pub max_operators : ℕ
max_operators = 64

abbrev pub operators_step : Expr-F ℕ → ℕ
operators_step (Expr-F.Column c) = 0
operators_step (Expr-F.Literal v) = 0
operators_step (Expr-F.Add a b) = min 65 (a + b + 1)
operators_step (Expr-F.Sub a b) = min 65 (a + b + 1)
operators_step (Expr-F.Mul a b) = min 65 (a + b + 1)

-- how many operators an expression has, or 65 where it has more
unfoldable pub operators : Expr → ℕ
operators = fold-Expr ℕ operators_step

-- a line with more than 64 operators in an expression is refused, so such an expression grows no further
unfoldable pub joined : (Expr → Expr → Expr) → Expr → Expr → Expr
joined op a b =
    if nat_lt max_operators (operators a) then a
    else (if nat_lt max_operators (operators b) then b
    else op a b)

-- a number past the end of what a value holds is refused too, and stands for the end
abbrev pub bounded : Reading
bounded = record {
  plain = λ n. pos (min n (2 ^ 63 - 1));
  negated = λ n. neg_ℤ (pos (min n (2 ^ 63)));
  join = joined;
}
