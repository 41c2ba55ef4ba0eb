-- decides: canonical text
-- The canonical lexemes of a SELECT.
use Rattle.std.specs.Prelude.{ℕ, Bool, true, false, List, [], ◌∷◌, ◌++◌, bytes_eq, Option, Some, None, if◌then◌else◌}
use Rattle.ifdb_syntax.specs.declared.lexeme.Lexeme.{Lexeme}
use Rattle.ifdb_syntax.specs.declared.lexeme.Lexeme.TheVariants as t
use Rattle.ifdb_syntax.specs.declared.expression.ColumnRef.{ColumnRef}
use Rattle.ifdb_syntax.specs.declared.condition.Cond.{Cond}
use Rattle.ifdb_syntax.specs.declared.select.Select.{Select}
use Rattle.ifdb_syntax.specs.declared.select.Item.{Item}
use Rattle.ifdb_syntax.specs.declared.select.Item.TheVariants as i
use Rattle.ifdb_syntax.specs.declared.select.Source.{Source}
use Rattle.ifdb_syntax.specs.declared.select.Order.{Order}
use Rattle.ifdb_syntax.specs.declared.select.OrderBy.{OrderBy}
use Rattle.ifdb_syntax.specs.declared.select.OrderBy.TheVariants as by
use Rattle.ifdb_syntax.specs.declared.place.ExprPlace.TheVariants as expr_at
use Rattle.ifdb_syntax.specs.declared.place.CondPlace.TheVariants as cond_at
use Rattle.ifdb_syntax.specs.Words.{Lexemes}
use Rattle.ifdb_syntax.specs.canonical.Tokens.{enclosed, commas, named_as_tokens, ref_tokens}
use Rattle.ifdb_syntax.specs.canonical.Expressions.{expr_tokens}
use Rattle.ifdb_syntax.specs.canonical.Conditions.{cond_tokens}

-- `word(column) [AS name]`
abbrev pub aggregate_tokens : Lexeme → ColumnRef → Option (List ℕ) → Lexemes
aggregate_tokens word column name = word ∷ enclosed (ref_tokens column) ++ named_as_tokens name

abbrev pub item_tokens : Item → Lexemes
item_tokens i.All = t.Star ∷ []
item_tokens (i.Expr x name) = expr_tokens x expr_at.Expr ++ named_as_tokens name
item_tokens (i.LabelOf source name) = t.Label ∷ t.Of ∷ t.Name source ∷ named_as_tokens name
item_tokens (i.CountAll name) = t.Count ∷ enclosed (t.Star ∷ []) ++ named_as_tokens name
item_tokens (i.Sum column name) = aggregate_tokens t.Sum column name
item_tokens (i.Min column name) = aggregate_tokens t.Min column name
item_tokens (i.Max column name) = aggregate_tokens t.Max column name

-- the alias is written where it differs from the name
abbrev pub source_tokens : Source → Lexemes
source_tokens s =
    if bytes_eq s.name s.alias then t.Name s.name ∷ []
    else (t.Name s.name ∷ t.As ∷ t.Name s.alias ∷ [])

abbrev pub order_by_token : OrderBy → Lexeme
order_by_token (by.Name name) = t.Name name
order_by_token (by.Place place) = t.Number place

-- ASC isn't written
abbrev pub descends_tokens : Bool → Lexemes
descends_tokens true = t.Desc ∷ []
descends_tokens false = []

abbrev pub order_tokens : Order → Lexemes
order_tokens o = order_by_token o.target ∷ descends_tokens o.descending

abbrev pub condition_tokens : Option Cond → Lexemes
condition_tokens None = []
condition_tokens (Some c) = t.Where ∷ cond_tokens c cond_at.Cond

-- ` GROUP BY columns`, or nothing where there are none
abbrev pub group_tokens : List ColumnRef → Lexemes
group_tokens [] = []
group_tokens (c ∷ cs) = t.Group ∷ t.By ∷ commas ref_tokens (c ∷ cs)

-- ` ORDER BY keys`, or nothing where there are none
abbrev pub orders_tokens : List Order → Lexemes
orders_tokens [] = []
orders_tokens (o ∷ os) = t.Order ∷ t.By ∷ commas order_tokens (o ∷ os)

abbrev pub select_tokens : Select → Lexemes
select_tokens s =
    t.Select ∷ commas item_tokens s.items
    ++ (t.From ∷ commas source_tokens s.sources
    ++ (condition_tokens s.cond ++ (group_tokens s.group ++ orders_tokens s.order)))
