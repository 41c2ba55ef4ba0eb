-- SELECT, and the SELECT of a view.
use Rattle.std.specs.Prelude.{ℕ, Bool, true, false, List, [], ◌∷◌, ◌++◌, Option}
use Rattle.ifdb_syntax.specs.declared.expression.ColumnRef.{ColumnRef}
use Rattle.ifdb_syntax.specs.declared.select.Select.{Select}
use Rattle.ifdb_syntax.specs.declared.select.Item.{Item}
use Rattle.ifdb_syntax.specs.declared.select.Item.TheVariants as i
use Rattle.ifdb_syntax.specs.declared.select.Source.{Source}
use Rattle.ifdb_syntax.specs.declared.select.Order.{Order}
use Rattle.ifdb_syntax.specs.declared.select.OrderBy.{OrderBy}
use Rattle.ifdb_syntax.specs.declared.select.OrderBy.TheVariants as by
use Rattle.ifdb_syntax.specs.Words.{SELECT, FROM, AS, LABEL, OF, COUNT, SUM, MIN, MAX, GROUP, ORDER, BY, ASC, DESC, STAR, NAME}
use Rattle.ifdb_parse.specs.theory.Parser.{Parser, ◌>>=◌, ◌>>◌, pure, branch}
use Rattle.ifdb_parse.specs.rules.Shared.{token, name, number, parens, optional, optional_list, commas}
use Rattle.ifdb_parse.specs.rules.Expressions.{in_expr, column_ref, expr}
use Rattle.ifdb_parse.specs.rules.Conditions.{condition}

-- [AS name]
unfoldable pub named_as : Parser (Option (List ℕ))
named_as = optional (AS ∷ []) (do token AS; name)

-- named = expr [AS name]
unfoldable pub named : Parser Item
named = do
  x ← expr
  n ← named_as
  pure (i.Expr x n)

-- LABEL OF name [AS name]
unfoldable pub label_of : Parser Item
label_of = do
  token LABEL
  token OF
  source ← name
  n ← named_as
  pure (i.LabelOf source n)

-- COUNT ( * ) [AS name]
unfoldable pub count_all : Parser Item
count_all = do
  token COUNT
  parens (token STAR)
  n ← named_as
  pure (i.CountAll n)

-- one of SUM, MIN and MAX, then ( ref ) [AS name]
unfoldable pub aggregate : ℕ → (ColumnRef → Option (List ℕ) → Item) → Parser Item
aggregate k item = do
  token k
  column ← parens column_ref
  n ← named_as
  pure (item column n)

-- expr [AS name] | LABEL OF name [AS name] | COUNT ( * ) [AS name]
unfoldable pub plain_item : Parser Item
plain_item = branch (in_expr ++ LABEL ∷ []) (branch in_expr named label_of) count_all

-- item = expr [AS name] | LABEL OF name [AS name] | COUNT ( * ) [AS name] | (SUM | MIN | MAX) ( ref ) [AS name]
unfoldable pub item : Parser Item
item =
    branch (in_expr ++ LABEL ∷ COUNT ∷ SUM ∷ MIN ∷ [])
    (branch (in_expr ++ LABEL ∷ COUNT ∷ SUM ∷ [])
    (branch (in_expr ++ LABEL ∷ COUNT ∷ []) plain_item (aggregate SUM i.Sum))
    (aggregate MIN i.Min))
    (aggregate MAX i.Max)

-- *
unfoldable pub all : Parser (List Item)
all = do
  token STAR
  pure (i.All ∷ [])

-- list = * | item {, item}
unfoldable pub list : Parser (List Item)
list = branch (STAR ∷ []) all (commas item)

-- named {, named}
unfoldable pub nameds : Parser (List Item)
nameds = commas named

-- * | named {, named}
unfoldable pub plain_list : Parser (List Item)
plain_list = branch (STAR ∷ []) all nameds

-- [AS] name
unfoldable pub alias : Parser (List ℕ)
alias = branch (AS ∷ []) (do token AS; name) name

-- source = name [[AS] name]
unfoldable pub source : Parser Source
source = do
  n ← name
  branch (AS ∷ NAME ∷ []) (do a ← alias; pure (record { name = n; alias = a }))
      (pure (record { name = n; alias = n }))

-- sources = source {, source}
unfoldable pub sources : Parser (List Source)
sources = commas source

-- columns = ref {, ref}
unfoldable pub columns : Parser (List ColumnRef)
columns = commas column_ref

-- name | number
unfoldable pub order_by : Parser OrderBy
order_by = branch (NAME ∷ []) (do n ← name; pure (by.Name n)) (do n ← number; pure (by.Place n))

-- [ASC | DESC]
unfoldable pub descends : Parser Bool
descends =
    branch (ASC ∷ DESC ∷ []) (branch (ASC ∷ []) (do token ASC; pure false) (do token DESC; pure true)) (pure false)

-- order = (name | number) [ASC | DESC]
unfoldable pub order : Parser Order
order = do
  target ← order_by
  d ← descends
  pure (record { target = target; descending = d })

-- plain = SELECT (* | named {, named}) FROM sources [WHERE cond]
unfoldable pub plain : Parser Select
plain = do
  token SELECT
  items ← plain_list
  token FROM
  from ← sources
  found ← condition
  pure (record { items = items; sources = from; cond = found; group = []; order = [] })

-- BY columns
unfoldable pub by_columns : Parser (List ColumnRef)
by_columns = do
  token BY
  columns

-- [GROUP BY columns]
unfoldable pub grouped : Parser (List ColumnRef)
grouped = optional_list (GROUP ∷ []) (do token GROUP; by_columns)

-- BY order {, order}
unfoldable pub by_orders : Parser (List Order)
by_orders = do
  token BY
  commas order

-- [ORDER BY order {, order}]
unfoldable pub ordered : Parser (List Order)
ordered = optional_list (ORDER ∷ []) (do token ORDER; by_orders)

-- FROM sources [WHERE cond] [GROUP BY columns] [ORDER BY order {, order}], behind the items
unfoldable pub select_from : List Item → Parser Select
select_from items = do
  token FROM
  from ← sources
  found ← condition
  group ← grouped
  keys ← ordered
  pure (record { items = items; sources = from; cond = found; group = group; order = keys })

-- SELECT list FROM sources [WHERE cond] [GROUP BY columns] [ORDER BY order {, order}]
unfoldable pub select : Parser Select
select = do
  token SELECT
  items ← list
  select_from items
