-- Induction over bound expressions, by their forms.
use Rattle.std.proofs.Common.{◌≡◌, sym, subst}
use Rattle.ifdb_value.specs.declared.value.Value.{Value}
use Rattle.ifdb_bound.specs.declared.expression.BoundColumn.{BoundColumn}
use Rattle.ifdb_bound.specs.declared.expression.BoundExpr.{BoundExpr, roll-BoundExpr}
use Rattle.ifdb_bound.specs.declared.expression.BoundExpr.TheVariants as e
use Rattle.ifdb_bound.specs.declared.expression.BoundExpr.TheOpen.{BoundExpr-F}
use Rattle.ifdb_bound.specs.declared.expression.BoundExpr.TheFolds as expr
use Rattle.ifdb_bound.specs.declared.expression.BoundExpr.TheBlock as expr_block
use denote.Hole.Holds.{Such}

-- what holds of columns and literals, and of an operator where it holds of its operands
pub record OfBoundExpr (P : BoundExpr → Type 0) : Type 0 where
  pub column : (x : BoundColumn) → P (e.Column x)
  pub literal : (v : Value) → P (e.Literal v)
  pub add : (a b : BoundExpr) → P a → P b → P (e.Add a b)
  pub sub : (a b : BoundExpr) → P a → P b → P (e.Sub a b)
  pub mul : (a b : BoundExpr) → P a → P b → P (e.Mul a b)

module _ (P : BoundExpr → Type 0) (h : OfBoundExpr P) where
  -- a child with what is shown of it
  abbrev Shown : Type 0
  Shown = Such expr_block.the_family (expr.claims P) expr_block.member-BoundExpr

  rolled : (y x : BoundExpr-F BoundExpr) → y ≡ x → P (roll-BoundExpr y) → P (roll-BoundExpr x)
  rolled y x is k = subst (λ (z : BoundExpr-F BoundExpr). P (roll-BoundExpr z)) is k

  step : (x : BoundExpr-F BoundExpr) (y : BoundExpr-F Shown) → expr.map-BoundExpr Shown BoundExpr (λ s. s.0) y ≡ x → P (roll-BoundExpr x)
  step x (BoundExpr-F.Column r) is = rolled _ x is (subst P (sym (e.rolls-Column r)) (h.column r))
  step x (BoundExpr-F.Literal v) is = rolled _ x is (subst P (sym (e.rolls-Literal v)) (h.literal v))
  step x (BoundExpr-F.Add a b) is = rolled _ x is (subst P (sym (e.rolls-Add a.0 b.0)) (h.add a.0 b.0 a.1 b.1))
  step x (BoundExpr-F.Sub a b) is = rolled _ x is (subst P (sym (e.rolls-Sub a.0 b.0)) (h.sub a.0 b.0 a.1 b.1))
  step x (BoundExpr-F.Mul a b) is = rolled _ x is (subst P (sym (e.rolls-Mul a.0 b.0)) (h.mul a.0 b.0 a.1 b.1))

  pub each_bound_expr : (x : BoundExpr) → P x
  each_bound_expr = expr.ind-BoundExpr P step
