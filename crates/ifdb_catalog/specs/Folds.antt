-- decides: names and refusals
-- Functions of written expressions and conditions by one step: what a node gives, once each child has given its result.
-- They compute on trees that are written out.
use denote.Hole.Carrier.{fold, hidden}
use Rattle.ifdb_syntax.specs.declared.expression.Expr.{Expr}
use Rattle.ifdb_syntax.specs.declared.expression.Expr.TheOpen.{Expr-F}
use Rattle.ifdb_syntax.specs.declared.expression.Expr.TheBlock as expr
use Rattle.ifdb_syntax.specs.declared.expression.Expr.TheBlock.{hidden-the_row-Expr-0}
use Rattle.ifdb_syntax.specs.declared.expression.Expr.TheFolds as expr_folds
use Rattle.ifdb_syntax.specs.declared.condition.Cond.{Cond}
use Rattle.ifdb_syntax.specs.declared.condition.Cond.TheOpen.{Cond-F}
use Rattle.ifdb_syntax.specs.declared.condition.Cond.TheBlock as cond
use Rattle.ifdb_syntax.specs.declared.condition.Cond.TheBlock.{shape-the_row-Cond-0, hidden-the_row-Cond-0, hidden-the_row-Cond-1}
use Rattle.ifdb_syntax.specs.declared.condition.Cond.TheFolds as cond_folds

-- a function of an expression by its step
unfoldable pub fold_expr : (A : Type 0) → (Expr-F A → A) → Expr → A
unfolding fold hidden hidden-the_row-Expr-0
fold_expr A step e =
    fold expr.the_members expr.the_sigs expr.the_carrier (expr_folds.family A) (expr_folds.steps A step) expr.member-Expr e

-- a function of a condition by its step
unfoldable pub fold_cond : (A : Type 0) → (Cond-F A → A) → Cond → A
unfolding fold hidden shape-the_row-Cond-0 hidden-the_row-Cond-0 hidden-the_row-Cond-1
fold_cond A step c =
    fold cond.the_members cond.the_sigs cond.the_carrier (cond_folds.family A) (cond_folds.steps A step) cond.member-Cond c
