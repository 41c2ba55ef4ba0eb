-- decides: queries and views
-- Functions of expressions and conditions by one step: what a node gives, once each child has given its result.
-- They compute on trees that are written out.
use denote.Hole.Carrier.{fold, hidden}
use Rattle.ifdb_bound.specs.declared.expression.BoundExpr.{BoundExpr}
use Rattle.ifdb_bound.specs.declared.expression.BoundExpr.TheOpen.{BoundExpr-F}
use Rattle.ifdb_bound.specs.declared.expression.BoundExpr.TheBlock as expr
use Rattle.ifdb_bound.specs.declared.expression.BoundExpr.TheBlock.{hidden-the_row-BoundExpr-0}
use Rattle.ifdb_bound.specs.declared.expression.BoundExpr.TheFolds as expr_folds
use Rattle.ifdb_bound.specs.declared.condition.BoundCond.{BoundCond}
use Rattle.ifdb_bound.specs.declared.condition.BoundCond.TheOpen.{BoundCond-F}
use Rattle.ifdb_bound.specs.declared.condition.BoundCond.TheBlock as cond
use Rattle.ifdb_bound.specs.declared.condition.BoundCond.TheBlock.{shape-the_row-BoundCond-0, hidden-the_row-BoundCond-0, hidden-the_row-BoundCond-1}
use Rattle.ifdb_bound.specs.declared.condition.BoundCond.TheFolds as cond_folds

-- a function of an expression by its step
unfoldable pub fold_expr : (A : Type 0) → (BoundExpr-F A → A) → BoundExpr → A
unfolding fold hidden hidden-the_row-BoundExpr-0
fold_expr A step e =
    fold expr.the_members expr.the_sigs expr.the_carrier (expr_folds.family A) (expr_folds.steps A step) expr.member-BoundExpr e

-- a function of a condition by its step
unfoldable pub fold_cond : (A : Type 0) → (BoundCond-F A → A) → BoundCond → A
unfolding fold hidden shape-the_row-BoundCond-0 hidden-the_row-BoundCond-0 hidden-the_row-BoundCond-1
fold_cond A step c =
    fold cond.the_members cond.the_sigs cond.the_carrier (cond_folds.family A) (cond_folds.steps A step) cond.member-BoundCond c
