-- Columns, literals and expressions.
use Rattle.std.specs.Prelude.{ℕ, zero, suc, [], ◌∷◌, length, Some, None}
use Rattle.ifdb_value.specs.declared.value.Value.{Value}
use Rattle.ifdb_value.specs.declared.value.Value.TheVariants as value
use Rattle.ifdb_syntax.specs.declared.expression.ColumnRef.{ColumnRef}
use Rattle.ifdb_syntax.specs.declared.expression.Expr.{Expr}
use Rattle.ifdb_syntax.specs.declared.expression.Expr.TheVariants as e
use Rattle.ifdb_syntax.specs.Words.{DOT, PLUS, MINUS, STAR, OPEN, NAME, NUMBER, QUOTED, NULL}
use Rattle.ifdb_syntax.specs.Reading.{bounded, joined}
use Rattle.ifdb_parse.specs.theory.Kinds.{Kinds}
use Rattle.ifdb_parse.specs.theory.Parser.{Parser, ◌>>=◌, ◌>>◌, pure, branch, repeat_by}
use Rattle.ifdb_parse.specs.rules.Shared.{token, name, number, text, parens}

-- ref = name [. name]
unfoldable pub column_ref : Parser ColumnRef
column_ref = do
  n ← name
  branch (DOT ∷ []) (do token DOT; c ← name; pure (record { source = Some n; column = c }))
      (pure (record { source = None; column = n }))

-- the number behind the `-` of a literal
unfoldable pub negative : Parser Value
negative = do
  n ← number
  pure (value.Int (bounded.negated n))

-- literal = number | - number | text | NULL
unfoldable pub literal : Parser Value
literal =
    branch (NUMBER ∷ MINUS ∷ QUOTED ∷ [])
    (branch (NUMBER ∷ MINUS ∷ []) (branch (NUMBER ∷ []) (do n ← number; pure (value.Int (bounded.plain n))) (do token MINUS; negative))
    (do w ← text; pure (value.Text w)))
    (do token NULL; pure value.Null)

-- what begins a column or a literal
abbrev pub in_atom : Kinds
in_atom = NAME ∷ NUMBER ∷ MINUS ∷ QUOTED ∷ NULL ∷ []

-- what begins an expression
abbrev pub in_expr : Kinds
in_expr = NAME ∷ NUMBER ∷ MINUS ∷ QUOTED ∷ NULL ∷ OPEN ∷ []

-- ref | literal
unfoldable pub atom : Parser Expr
atom = branch (NAME ∷ []) (do c ← column_ref; pure (e.Column c)) (do v ← literal; pure (e.Literal v))

-- factor = ref | literal | ( expr )
unfoldable pub factor : Parser Expr → Parser Expr
factor expr = branch in_atom atom (parens expr)

unfoldable pub product_round : Parser Expr → Expr → Parser Expr
product_round factor left = do
  token STAR
  right ← factor
  pure (joined e.Mul left right)

-- term = factor {* factor}
unfoldable pub term : Parser Expr → Parser Expr
term factor = factor >>= repeat_by (STAR ∷ []) (product_round factor)

unfoldable pub sum_round : Parser Expr → Expr → Parser Expr
sum_round term left =
    branch (PLUS ∷ []) (do token PLUS; right ← term; pure (joined e.Add left right))
    (do token MINUS; right ← term; pure (joined e.Sub left right))

-- expr = term {(+ | -) term}, of which `expr` below ties the knot
unfoldable pub sum : Parser Expr → Parser Expr
sum term = term >>= repeat_by (PLUS ∷ MINUS ∷ []) (sum_round term)

-- an expression with parentheses so many deep
unfoldable pub expr_upto : ℕ → Parser Expr
expr_upto zero = sum (term atom)
expr_upto (suc n) = sum (term (factor (expr_upto n)))

-- expr = term {(+ | -) term}: parentheses are no deeper than the text is long
unfoldable pub expr : Parser Expr
expr = λ s. expr_upto (length s) s
