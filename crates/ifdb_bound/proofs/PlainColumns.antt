-- Which bound expressions are a column.
use Rattle.std.proofs.Common.{◌≡◌, refl, Some, None}
use Rattle.ifdb_value.specs.declared.value.Value.{Value}
use Rattle.ifdb_bound.specs.declared.expression.BoundColumn.{BoundColumn}
use Rattle.ifdb_bound.specs.declared.expression.BoundExpr.{BoundExpr}
use Rattle.ifdb_bound.specs.declared.expression.BoundExpr.TheVariants as e
use Rattle.ifdb_bound.specs.Folds.{fold_expr}
use Rattle.ifdb_bound.specs.Forms.{plain_column}

pub plain_column-Column : (x : BoundColumn) → plain_column (e.Column x) ≡ Some x
unfolding plain_column fold_expr
plain_column-Column x = refl

pub plain_column-Literal : (v : Value) → plain_column (e.Literal v) ≡ None
unfolding plain_column fold_expr
plain_column-Literal v = refl

pub plain_column-Add : (a b : BoundExpr) → plain_column (e.Add a b) ≡ None
unfolding plain_column fold_expr
plain_column-Add a b = refl

pub plain_column-Sub : (a b : BoundExpr) → plain_column (e.Sub a b) ≡ None
unfolding plain_column fold_expr
plain_column-Sub a b = refl

pub plain_column-Mul : (a b : BoundExpr) → plain_column (e.Mul a b) ≡ None
unfolding plain_column fold_expr
plain_column-Mul a b = refl

pub ruleset plain_columns = (plain_column-Column, plain_column-Literal, plain_column-Add, plain_column-Sub, plain_column-Mul)
