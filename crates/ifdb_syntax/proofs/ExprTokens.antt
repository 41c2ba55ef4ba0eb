-- The canonical lexemes of an expression by its form.
use Rattle.std.proofs.Common.{◌≡◌, ◌∷◌, ◌++◌, sym, ap, ◌∙◌}
use Rattle.ifdb_value.specs.declared.value.Value.{Value}
use Rattle.ifdb_syntax.specs.declared.lexeme.Lexeme.TheVariants as t
use Rattle.ifdb_syntax.specs.declared.expression.ColumnRef.{ColumnRef}
use Rattle.ifdb_syntax.specs.declared.expression.Expr.{Expr}
use Rattle.ifdb_syntax.specs.declared.expression.Expr.TheVariants as e
use Rattle.ifdb_syntax.specs.declared.expression.Expr.TheOpen.{Expr-F}
use Rattle.ifdb_syntax.specs.declared.expression.Expr.TheFolds.{fold-Expr, fold-roll-Expr}
use Rattle.ifdb_syntax.specs.declared.place.ExprPlace.{ExprPlace}
use Rattle.ifdb_syntax.specs.declared.place.ExprPlace.TheVariants as at
use Rattle.ifdb_syntax.specs.Words.{Lexemes}
use Rattle.ifdb_syntax.specs.canonical.Tokens.{enclosed_if, ref_tokens, literal_tokens}
use Rattle.ifdb_syntax.specs.canonical.Expressions.{sum_enclosed, product_enclosed, expr_step, expr_tokens}

at_place : {f g : ExprPlace → Lexemes} (place : ExprPlace) → f ≡ g → f place ≡ g place
at_place place h = ap (λ (z : ExprPlace → Lexemes). z place) h

pub expr_tokens-Column : (c : ColumnRef) (place : ExprPlace) → expr_tokens (e.Column c) place ≡ ref_tokens c
unfolding expr_tokens
expr_tokens-Column c place =
    at_place place (ap (fold-Expr (ExprPlace → Lexemes) expr_step) (sym (e.rolls-Column c)) ∙ fold-roll-Expr (ExprPlace → Lexemes) expr_step (Expr-F.Column c))

pub expr_tokens-Literal : (v : Value) (place : ExprPlace) → expr_tokens (e.Literal v) place ≡ literal_tokens v
unfolding expr_tokens
expr_tokens-Literal v place =
    at_place place (ap (fold-Expr (ExprPlace → Lexemes) expr_step) (sym (e.rolls-Literal v)) ∙ fold-roll-Expr (ExprPlace → Lexemes) expr_step (Expr-F.Literal v))

pub expr_tokens-Add : (a b : Expr) (place : ExprPlace) → expr_tokens (e.Add a b) place ≡ enclosed_if (sum_enclosed place) (expr_tokens a at.Expr ++ t.Plus ∷ expr_tokens b at.Term)
unfolding expr_tokens
expr_tokens-Add a b place =
    at_place place (ap (fold-Expr (ExprPlace → Lexemes) expr_step) (sym (e.rolls-Add a b)) ∙ fold-roll-Expr (ExprPlace → Lexemes) expr_step (Expr-F.Add a b))

pub expr_tokens-Sub : (a b : Expr) (place : ExprPlace) → expr_tokens (e.Sub a b) place ≡ enclosed_if (sum_enclosed place) (expr_tokens a at.Expr ++ t.Minus ∷ expr_tokens b at.Term)
unfolding expr_tokens
expr_tokens-Sub a b place =
    at_place place (ap (fold-Expr (ExprPlace → Lexemes) expr_step) (sym (e.rolls-Sub a b)) ∙ fold-roll-Expr (ExprPlace → Lexemes) expr_step (Expr-F.Sub a b))

pub expr_tokens-Mul : (a b : Expr) (place : ExprPlace) → expr_tokens (e.Mul a b) place ≡ enclosed_if (product_enclosed place) (expr_tokens a at.Term ++ t.Star ∷ expr_tokens b at.Factor)
unfolding expr_tokens
expr_tokens-Mul a b place =
    at_place place (ap (fold-Expr (ExprPlace → Lexemes) expr_step) (sym (e.rolls-Mul a b)) ∙ fold-roll-Expr (ExprPlace → Lexemes) expr_step (Expr-F.Mul a b))

pub ruleset expr_laws = (expr_tokens-Column, expr_tokens-Literal, expr_tokens-Add, expr_tokens-Sub, expr_tokens-Mul)
