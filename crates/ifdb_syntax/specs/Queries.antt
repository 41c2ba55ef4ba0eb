-- decides: the grammar
-- SELECT, and the SELECT of a view.
use Rattle.std.specs.Prelude.{ℕ, Bool, true, false, List, [], ◌∷◌, Option}
use Rattle.ifdb_syntax.specs.declared.expression.ColumnRef.{ColumnRef}
use Rattle.ifdb_syntax.specs.declared.select.Select.{Select}
use Rattle.ifdb_syntax.specs.declared.select.Item.{Item}
use Rattle.ifdb_syntax.specs.declared.select.Item.TheVariants as i
use Rattle.ifdb_syntax.specs.declared.select.Source.{Source}
use Rattle.ifdb_syntax.specs.declared.select.Order.{Order}
use Rattle.ifdb_syntax.specs.declared.select.OrderBy.{OrderBy}
use Rattle.ifdb_syntax.specs.declared.select.OrderBy.TheVariants as by
use Rattle.ifdb_syntax.specs.Words.{SELECT, FROM, AS, LABEL, OF, COUNT, SUM, MIN, MAX, GROUP, ORDER, BY, ASC, DESC, STAR}
use Rattle.ifdb_syntax.specs.Lang.{Lang, ◌>>=◌, ◌>>◌, ◌or◌, nothing, token, name, number, parens, optional, optional_list, commas}
use Rattle.ifdb_syntax.specs.Reading.{Reading}
use Rattle.ifdb_syntax.specs.Expressions.{ref, expr}
use Rattle.ifdb_syntax.specs.Conditions.{condition}

-- [AS name]
abbrev pub named_as : Lang (Option (List ℕ))
named_as = optional (do token AS; name)

-- named = expr [AS name]
abbrev pub named : Reading → Lang Item
named r = do
  x ← expr r
  n ← named_as
  nothing (i.Expr x n)

-- LABEL OF name [AS name]
abbrev pub label_of : Lang Item
label_of = do
  token LABEL
  token OF
  source ← name
  n ← named_as
  nothing (i.LabelOf source n)

-- COUNT ( * ) [AS name]
abbrev pub count_all : Lang Item
count_all = do
  token COUNT
  parens (token STAR)
  n ← named_as
  nothing (i.CountAll n)

-- one of SUM, MIN and MAX, then ( ref ) [AS name]
abbrev pub aggregate : ℕ → (ColumnRef → Option (List ℕ) → Item) → Lang Item
aggregate k item = do
  token k
  column ← parens ref
  n ← named_as
  nothing (item column n)

-- item = expr [AS name] | LABEL OF name [AS name] | COUNT ( * ) [AS name] | (SUM | MIN | MAX) ( ref ) [AS name]
abbrev pub item : Reading → Lang Item
item r = named r or label_of or count_all or aggregate SUM i.Sum or aggregate MIN i.Min or aggregate MAX i.Max

-- *
abbrev pub all : Lang (List Item)
all = do
  token STAR
  nothing (i.All ∷ [])

-- list = * | item {, item}
abbrev pub list : Reading → Lang (List Item)
list r = all or commas (item r)

-- source = name [[AS] name]
abbrev pub source : Lang Source
source = do
  n ← name
  (do a ← ((do token AS; name) or name); nothing (record { name = n; alias = a }))
      or nothing (record { name = n; alias = n })

-- sources = source {, source}
abbrev pub sources : Lang (List Source)
sources = commas source

-- columns = ref {, ref}
abbrev pub columns : Lang (List ColumnRef)
columns = commas ref

-- name | number
abbrev pub order_by : Lang OrderBy
order_by = (do n ← name; nothing (by.Name n)) or (do n ← number; nothing (by.Place n))

-- [ASC | DESC]
abbrev pub descends : Lang Bool
descends = (do token ASC; nothing false) or (do token DESC; nothing true) or nothing false

-- order = (name | number) [ASC | DESC]
abbrev pub order : Lang Order
order = do
  target ← order_by
  d ← descends
  nothing (record { target = target; descending = d })

-- plain = SELECT (* | named {, named}) FROM sources [WHERE cond]
abbrev pub plain : Reading → Lang Select
plain r = do
  token SELECT
  items ← (all or commas (named r))
  token FROM
  from ← sources
  found ← condition r
  nothing (record { items = items; sources = from; cond = found; group = []; order = [] })

-- SELECT list FROM sources [WHERE cond] [GROUP BY columns] [ORDER BY order {, order}]
abbrev pub select : Reading → Lang Select
select r = do
  token SELECT
  items ← list r
  token FROM
  from ← sources
  found ← condition r
  group ← optional_list (do token GROUP; token BY; columns)
  keys ← optional_list (do token ORDER; token BY; commas order)
  nothing (record { items = items; sources = from; cond = found; group = group; order = keys })
