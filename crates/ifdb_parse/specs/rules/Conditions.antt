-- Conditions.
use Rattle.std.specs.Prelude.{ℕ, Bool, true, false, zero, suc, [], ◌∷◌, length, Option}
use Rattle.ifdb_value.specs.declared.value.Compare.{Compare}
use Rattle.ifdb_syntax.specs.declared.expression.Operand.{Operand}
use Rattle.ifdb_syntax.specs.declared.expression.Operand.TheVariants as o
use Rattle.ifdb_syntax.specs.declared.condition.Cond.{Cond}
use Rattle.ifdb_syntax.specs.declared.condition.Cond.TheVariants as c
use Rattle.ifdb_syntax.specs.Words.{NOT, AND, OR, WHERE, IS, NULL, OPEN, NAME, EQUAL, NOT_EQUAL, LESS, AT_MOST, GREATER, AT_LEAST}
use Rattle.ifdb_syntax.specs.Conditions.{compare_of, and_of, or_of}
use Rattle.ifdb_parse.specs.theory.Kinds.{Kinds}
use Rattle.ifdb_parse.specs.theory.Parser.{Parser, ◌>>=◌, ◌>>◌, pure, take, branch}
use Rattle.ifdb_parse.specs.rules.Shared.{token, parens, optional, separated}
use Rattle.ifdb_parse.specs.rules.Expressions.{column_ref, literal}

-- operand = ref | literal
unfoldable pub operand : Parser Operand
operand = branch (NAME ∷ []) (do c ← column_ref; pure (o.Column c)) (do v ← literal; pure (o.Literal v))

-- compare = = | <> | < | <= | > | >=
unfoldable pub compare : Parser Compare
compare = take compare_of

-- what begins a comparison behind its left operand
abbrev pub in_compare : Kinds
in_compare = EQUAL ∷ NOT_EQUAL ∷ LESS ∷ AT_MOST ∷ GREATER ∷ AT_LEAST ∷ []

-- compare operand, behind the left one
unfoldable pub compared_with : Operand → Parser Cond
compared_with left = do
  how ← compare
  right ← operand
  pure (c.Compare left how right)

-- [NOT], which negates
unfoldable pub negates : Parser Bool
negates = branch (NOT ∷ []) (do token NOT; pure true) (pure false)

-- NULL, behind IS or IS NOT
unfoldable pub null_word : Operand → Bool → Parser Cond
null_word x negated = do
  token NULL
  pure (c.IsNull x negated)

-- IS [NOT] NULL, behind the operand
unfoldable pub null_test : Operand → Parser Cond
null_test x = do
  token IS
  negated ← negates
  null_word x negated

-- operand compare operand | operand IS [NOT] NULL
unfoldable pub comparison : Parser Cond
comparison = do
  left ← operand
  branch in_compare (compared_with left) (null_test left)

-- NOT before what follows it
unfoldable pub negation : Parser Cond → Parser Cond
negation prim = do
  token NOT
  x ← prim
  pure (c.Not x)

-- NOT, at most so many times, before p
unfoldable pub negated_upto : Parser Cond → ℕ → Parser Cond
negated_upto p zero = p
negated_upto p (suc n) = branch (NOT ∷ []) (negation (negated_upto p n)) p

-- NOT any number of times before p: no more than the text is long
unfoldable pub negated : Parser Cond → Parser Cond
negated p = λ s. negated_upto p (length s) s

-- ( cond ) | operand compare operand | operand IS [NOT] NULL
unfoldable pub basic : Parser Cond → Parser Cond
basic cond = branch (OPEN ∷ []) (parens cond) comparison

-- prim = NOT prim | ( cond ) | operand compare operand | operand IS [NOT] NULL
unfoldable pub prim : Parser Cond → Parser Cond
prim cond = negated (basic cond)

-- conj = prim {AND prim}
unfoldable pub conj : Parser Cond → Parser Cond
conj prim = do
  parts ← separated AND prim
  pure (and_of parts)

-- cond = conj {OR conj}, of which `cond` below ties the knot
unfoldable pub disj : Parser Cond → Parser Cond
disj conj = do
  parts ← separated OR conj
  pure (or_of parts)

-- a condition with parentheses so many deep
unfoldable pub cond_upto : ℕ → Parser Cond
cond_upto zero = disj (conj (negated comparison))
cond_upto (suc n) = disj (conj (prim (cond_upto n)))

-- cond = conj {OR conj}: parentheses are no deeper than the text is long
unfoldable pub cond : Parser Cond
cond = λ s. cond_upto (length s) s

-- [WHERE cond]
unfoldable pub condition : Parser (Option Cond)
condition = optional (WHERE ∷ []) (do token WHERE; cond)
