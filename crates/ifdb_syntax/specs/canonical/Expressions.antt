-- decides: canonical text
-- The canonical lexemes of expressions, with the parentheses that they need and no others.
use Rattle.std.specs.Prelude.{Bool, true, false, ◌∷◌, ◌++◌}
use Rattle.ifdb_syntax.specs.declared.lexeme.Lexeme.TheVariants as t
use Rattle.ifdb_syntax.specs.declared.expression.Expr.{Expr}
use Rattle.ifdb_syntax.specs.declared.expression.Expr.TheOpen.{Expr-F}
use Rattle.ifdb_syntax.specs.declared.expression.Expr.TheFolds.{fold-Expr}
use Rattle.ifdb_syntax.specs.declared.place.ExprPlace.{ExprPlace}
use Rattle.ifdb_syntax.specs.declared.place.ExprPlace.TheVariants as at
use Rattle.ifdb_syntax.specs.Words.{Lexemes}
use Rattle.ifdb_syntax.specs.canonical.Tokens.{enclosed_if, ref_tokens, literal_tokens}

-- where a sum or difference has parentheses: inside `*`, and as a right operand
abbrev pub sum_enclosed : ExprPlace → Bool
sum_enclosed at.Expr = false
sum_enclosed at.Term = true
sum_enclosed at.Factor = true

-- where a product has them: as a right operand of `*`
abbrev pub product_enclosed : ExprPlace → Bool
product_enclosed at.Expr = false
product_enclosed at.Term = false
product_enclosed at.Factor = true

abbrev pub expr_step : Expr-F (ExprPlace → Lexemes) → ExprPlace → Lexemes
expr_step (Expr-F.Column c) place = ref_tokens c
expr_step (Expr-F.Literal v) place = literal_tokens v
expr_step (Expr-F.Add a b) place = enclosed_if (sum_enclosed place) (a at.Expr ++ t.Plus ∷ b at.Term)
expr_step (Expr-F.Sub a b) place = enclosed_if (sum_enclosed place) (a at.Expr ++ t.Minus ∷ b at.Term)
expr_step (Expr-F.Mul a b) place = enclosed_if (product_enclosed place) (a at.Term ++ t.Star ∷ b at.Factor)

-- an expression in the place of one of the rules
unfoldable pub expr_tokens : Expr → ExprPlace → Lexemes
expr_tokens = fold-Expr (ExprPlace → Lexemes) expr_step
