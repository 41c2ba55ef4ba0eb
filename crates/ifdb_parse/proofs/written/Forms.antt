-- Whether all numbers of a tree are values, by its form.
use Rattle.std.proofs.Common.{◌≡◌, Bool, true, false, List, [], ◌∷◌, ◌++◌, map, refl, sym, ap, ◌∙◌}
use Rattle.std.specs.Prelude.{◌&&◌}
use Rattle.std.specs.List.{list_all}
use Rattle.ifdb_value.specs.declared.value.Value.{Value}
use Rattle.ifdb_value.specs.declared.value.Compare.{Compare}
use Rattle.ifdb_syntax.specs.declared.expression.ColumnRef.{ColumnRef}
use Rattle.ifdb_syntax.specs.declared.expression.Expr.{Expr}
use Rattle.ifdb_syntax.specs.declared.expression.Expr.TheVariants as e
use Rattle.ifdb_syntax.specs.declared.expression.Expr.TheOpen.{Expr-F}
use Rattle.ifdb_syntax.specs.declared.expression.Expr.TheFolds.{fold-Expr, fold-roll-Expr}
use Rattle.ifdb_syntax.specs.declared.expression.Operand.{Operand}
use Rattle.ifdb_syntax.specs.declared.condition.Cond.{Cond}
use Rattle.ifdb_syntax.specs.declared.condition.Cond.TheVariants as c
use Rattle.ifdb_syntax.specs.declared.condition.Cond.TheOpen.{Cond-F}
use Rattle.ifdb_syntax.specs.declared.condition.Cond.TheFolds.{fold-Cond, fold-roll-Cond}
use Rattle.ifdb_syntax.specs.Conditions.{and_of, or_of}
use Rattle.ifdb_syntax.specs.Shapes.{same}
use Rattle.ifdb_syntax.specs.Within.{value_fits, expr_fits_step, expr_fits, operand_fits, cond_fits_step, cond_fits}
use Rattle.ifdb_parse.proofs.written.Tally.{and_true, and_assoc}

pub expr_fits-Column : (x : ColumnRef) → expr_fits (e.Column x) ≡ true
unfolding expr_fits
expr_fits-Column x = ap (fold-Expr Bool expr_fits_step) (sym (e.rolls-Column x)) ∙ fold-roll-Expr Bool expr_fits_step (Expr-F.Column x)

pub expr_fits-Literal : (v : Value) → expr_fits (e.Literal v) ≡ value_fits v
unfolding expr_fits
expr_fits-Literal v = ap (fold-Expr Bool expr_fits_step) (sym (e.rolls-Literal v)) ∙ fold-roll-Expr Bool expr_fits_step (Expr-F.Literal v)

pub expr_fits-Add : (a b : Expr) → expr_fits (e.Add a b) ≡ (expr_fits a && expr_fits b)
unfolding expr_fits
expr_fits-Add a b = ap (fold-Expr Bool expr_fits_step) (sym (e.rolls-Add a b)) ∙ fold-roll-Expr Bool expr_fits_step (Expr-F.Add a b)

pub expr_fits-Sub : (a b : Expr) → expr_fits (e.Sub a b) ≡ (expr_fits a && expr_fits b)
unfolding expr_fits
expr_fits-Sub a b = ap (fold-Expr Bool expr_fits_step) (sym (e.rolls-Sub a b)) ∙ fold-roll-Expr Bool expr_fits_step (Expr-F.Sub a b)

pub expr_fits-Mul : (a b : Expr) → expr_fits (e.Mul a b) ≡ (expr_fits a && expr_fits b)
unfolding expr_fits
expr_fits-Mul a b = ap (fold-Expr Bool expr_fits_step) (sym (e.rolls-Mul a b)) ∙ fold-roll-Expr Bool expr_fits_step (Expr-F.Mul a b)

all-map : {A : Type 0} (f : A → Bool) (xs : List A) → list_all same (map f xs) ≡ list_all f xs
all-map f [] = refl
all-map f (x ∷ xs) = ap (λ z. f x && z) (all-map f xs)

pub cond_fits-Or : (parts : List Cond) → cond_fits (c.Or parts) ≡ list_all cond_fits parts
unfolding cond_fits
cond_fits-Or parts = ap (fold-Cond Bool cond_fits_step) (sym (c.rolls-Or parts)) ∙ fold-roll-Cond Bool cond_fits_step (Cond-F.Or parts) ∙ all-map (fold-Cond Bool cond_fits_step) parts

pub cond_fits-And : (parts : List Cond) → cond_fits (c.And parts) ≡ list_all cond_fits parts
unfolding cond_fits
cond_fits-And parts = ap (fold-Cond Bool cond_fits_step) (sym (c.rolls-And parts)) ∙ fold-roll-Cond Bool cond_fits_step (Cond-F.And parts) ∙ all-map (fold-Cond Bool cond_fits_step) parts

pub cond_fits-Not : (a : Cond) → cond_fits (c.Not a) ≡ cond_fits a
unfolding cond_fits
cond_fits-Not a = ap (fold-Cond Bool cond_fits_step) (sym (c.rolls-Not a)) ∙ fold-roll-Cond Bool cond_fits_step (Cond-F.Not a)

pub cond_fits-Compare : (a : Operand) (how : Compare) (b : Operand) → cond_fits (c.Compare a how b) ≡ (operand_fits a && operand_fits b)
unfolding cond_fits
cond_fits-Compare a how b = ap (fold-Cond Bool cond_fits_step) (sym (c.rolls-Compare a how b)) ∙ fold-roll-Cond Bool cond_fits_step (Cond-F.Compare a how b)

pub cond_fits-IsNull : (a : Operand) (negated : Bool) → cond_fits (c.IsNull a negated) ≡ operand_fits a
unfolding cond_fits
cond_fits-IsNull a negated = ap (fold-Cond Bool cond_fits_step) (sym (c.rolls-IsNull a negated)) ∙ fold-roll-Cond Bool cond_fits_step (Cond-F.IsNull a negated)

pub cond_fits-and_of : (parts : List Cond) → cond_fits (and_of parts) ≡ list_all cond_fits parts
cond_fits-and_of [] = cond_fits-And []
cond_fits-and_of (a ∷ []) = sym (and_true (cond_fits a))
cond_fits-and_of (a ∷ b ∷ more) = cond_fits-And (a ∷ b ∷ more)

pub cond_fits-or_of : (parts : List Cond) → cond_fits (or_of parts) ≡ list_all cond_fits parts
cond_fits-or_of [] = cond_fits-Or []
cond_fits-or_of (a ∷ []) = sym (and_true (cond_fits a))
cond_fits-or_of (a ∷ b ∷ more) = cond_fits-Or (a ∷ b ∷ more)

-- one more member
pub all-last : {A : Type 0} (f : A → Bool) (xs : List A) (x : A) → list_all f (xs ++ x ∷ []) ≡ (list_all f xs && f x)
all-last f [] x = and_true (f x)
all-last f (y ∷ xs) x = ap (λ z. f y && z) (all-last f xs x) ∙ and_assoc (f y) (list_all f xs) (f x)

pub all-one : {A : Type 0} (f : A → Bool) (x : A) → list_all f (x ∷ []) ≡ f x
all-one f x = and_true (f x)
