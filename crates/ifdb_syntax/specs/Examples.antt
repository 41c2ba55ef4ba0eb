-- Trees by hand and their texts: for each rule of parentheses, trees that need them and trees that don't.
use Rattle.std.specs.Prelude.{◌≡◌, ℕ, true, false, List, [], ◌∷◌, codes, Some, None, ℤ, pos, negsuc}
use Rattle.ifdb_value.specs.declared.value.Value.TheVariants as value
use Rattle.ifdb_value.specs.declared.value.Compare.TheVariants as how
use Rattle.ifdb_syntax.specs.declared.expression.Expr.{Expr}
use Rattle.ifdb_syntax.specs.declared.expression.Expr.TheVariants as e
use Rattle.ifdb_syntax.specs.declared.expression.Operand.TheVariants as o
use Rattle.ifdb_syntax.specs.declared.condition.Cond.{Cond}
use Rattle.ifdb_syntax.specs.declared.condition.Cond.TheVariants as c
use Rattle.ifdb_syntax.specs.declared.select.Item.TheVariants as i
use Rattle.ifdb_syntax.specs.declared.select.OrderBy.TheVariants as by
use Rattle.ifdb_syntax.specs.declared.request.Request.{Request}
use Rattle.ifdb_syntax.specs.declared.request.Request.TheVariants as q
use Rattle.ifdb_syntax.specs.declared.place.ExprPlace.TheVariants as expr_at
use Rattle.ifdb_syntax.specs.declared.place.CondPlace.TheVariants as cond_at
use Rattle.ifdb_syntax.specs.canonical.Expressions.{expr_tokens}
use Rattle.ifdb_syntax.specs.canonical.Conditions.{cond_tokens}
use Rattle.ifdb_syntax.specs.canonical.Text.{spaced, canonical_text}

-- ---- expressions

abbrev pub column : List ℕ → Expr
column name = e.Column (record { source = None; column = name })

abbrev pub x : Expr
x = column (codes "x")

abbrev pub y : Expr
y = column (codes "y")

abbrev pub z : Expr
z = column (codes "z")

abbrev pub number : ℤ → Expr
number n = e.Literal (value.Int n)

-- an expression has this text
abbrev pub ExprText : Expr → List ℕ → Type 0
ExprText a text = spaced (expr_tokens a expr_at.Expr) ≡ text

pub record ExprExamples : Type 0 where
  pub sums_to_the_left : ExprText (e.Sub (e.Add x y) z) (codes "x + y - z")
  pub difference_on_the_right : ExprText (e.Sub x (e.Sub y z)) (codes "x - (y - z)")
  pub sum_on_the_right : ExprText (e.Add x (e.Add y z)) (codes "x + (y + z)")
  pub products_to_the_left : ExprText (e.Mul (e.Mul x y) z) (codes "x * y * z")
  pub product_on_the_right : ExprText (e.Mul x (e.Mul y z)) (codes "x * (y * z)")
  pub sum_inside_product : ExprText (e.Mul (e.Add x y) (e.Sub y z)) (codes "(x + y) * (y - z)")
  pub product_inside_sum : ExprText (e.Add (e.Mul x y) (e.Mul y z)) (codes "x * y + y * z")
  pub negative_number : ExprText (e.Sub x (e.Sub (number (negsuc 0)) (number (pos 1)))) (codes "x - (-1 - 1)")
  pub least_number : ExprText (e.Mul (number (negsuc 9223372036854775807)) x) (codes "-9223372036854775808 * x")
  pub column_of_a_source : ExprText (e.Column (record { source = Some (codes "s"); column = codes "x" })) (codes "s.x")
  pub text_with_a_quote : ExprText (e.Literal (value.Text (codes "it's"))) (codes "'it''s'")

-- ---- conditions

-- `name how 1`
abbrev pub one_of : List ℕ → Cond
one_of name = c.Compare (o.Column (record { source = None; column = name })) how.Equal (o.Literal (value.Int (pos 1)))

abbrev pub p : Cond
p = one_of (codes "p")

abbrev pub r : Cond
r = one_of (codes "r")

abbrev pub s : Cond
s = one_of (codes "s")

-- a condition has this text
abbrev pub CondText : Cond → List ℕ → Type 0
CondText a text = spaced (cond_tokens a cond_at.Cond) ≡ text

pub record CondExamples : Type 0 where
  pub or_inside_not : CondText (c.Not (c.Or (p ∷ r ∷ []))) (codes "NOT (p = 1 OR r = 1)")
  pub and_inside_not : CondText (c.Not (c.And (p ∷ r ∷ []))) (codes "NOT (p = 1 AND r = 1)")
  pub not_inside_not : CondText (c.Not (c.Not p)) (codes "NOT NOT p = 1")
  pub or_inside_and : CondText (c.And (c.Or (p ∷ r ∷ []) ∷ s ∷ [])) (codes "(p = 1 OR r = 1) AND s = 1")
  pub and_inside_and : CondText (c.And (p ∷ c.And (r ∷ s ∷ []) ∷ [])) (codes "p = 1 AND (r = 1 AND s = 1)")
  pub not_inside_and : CondText (c.And (c.Not p ∷ r ∷ s ∷ [])) (codes "NOT p = 1 AND r = 1 AND s = 1")
  pub or_inside_or : CondText (c.Or (c.Or (p ∷ r ∷ []) ∷ s ∷ [])) (codes "(p = 1 OR r = 1) OR s = 1")
  pub and_inside_or : CondText (c.Or (c.And (p ∷ r ∷ []) ∷ c.Not s ∷ [])) (codes "p = 1 AND r = 1 OR NOT s = 1")

-- ---- requests

-- a query of one column
abbrev pub query_example : Request
query_example = q.Select (record {
  items = i.Expr (column (codes "id")) None ∷ [];
  sources = record { name = codes "note"; alias = codes "note" } ∷ [];
  cond = Some (c.Not (c.Compare (o.Column (record { source = None; column = codes "id" })) how.NotEqual (o.Literal (value.Int (pos 1)))));
  group = [];
  order = [];
})

-- a query with an alias, an aggregate, groups and keys
abbrev pub group_example : Request
group_example = q.Select (record {
  items = i.CountAll (Some (codes "n")) ∷ i.Sum (record { source = Some (codes "v"); column = codes "fee" }) None ∷ [];
  sources = record { name = codes "visit"; alias = codes "v" } ∷ record { name = codes "note"; alias = codes "note" } ∷ [];
  cond = None;
  group = record { source = None; column = codes "id" } ∷ [];
  order = record { target = by.Name (codes "n"); descending = true } ∷ record { target = by.Place 2; descending = false } ∷ [];
})

pub record RequestExamples : Type 0 where
  pub query : canonical_text query_example ≡ codes "SELECT id FROM note WHERE NOT id <> 1"
  pub groups : canonical_text group_example ≡ codes "SELECT COUNT(*) AS n, SUM(v.fee) FROM visit AS v, note GROUP BY id ORDER BY n DESC, 2"
  pub no_tags : canonical_text (q.SetLabel []) ≡ codes "SET LABEL ()"
  pub tags : canonical_text (q.SetLabel (codes "a" ∷ codes "b" ∷ [])) ≡ codes "SET LABEL (a, b)"
