-- Worked examples, by computation.
use Rattle.std.proofs.Common.{◌≡◌, refl, List, [], ◌∷◌, ◌-◌, ◌^◌, Option, Some, None, ℕ, pos, negsuc, Bool, true, false}
use Rattle.std.specs.Prelude.{codes}
use Rattle.ifdb_value.specs.declared.value.Value.{Value}
use Rattle.ifdb_value.specs.declared.value.Value.TheVariants as value
use Rattle.ifdb_value.specs.declared.value.Compare.{Compare}
use Rattle.ifdb_value.specs.declared.value.Compare.TheVariants as how
use Rattle.ifdb_bound.specs.declared.expression.BoundColumn.{BoundColumn}
use Rattle.ifdb_bound.specs.declared.expression.BoundExpr.TheVariants as e
use Rattle.ifdb_bound.specs.declared.expression.BoundOperand.TheVariants as o
use Rattle.ifdb_bound.specs.declared.condition.BoundCond.{BoundCond}
use Rattle.ifdb_bound.specs.declared.condition.BoundCond.TheVariants as c
use Rattle.ifdb_bound.specs.declared.select.BoundSelect.{BoundSelect}
use Rattle.ifdb_bound.specs.declared.select.BoundItem.{BoundItem}
use Rattle.ifdb_bound.specs.declared.select.BoundItem.TheVariants as item
use Rattle.ifdb_bound.specs.declared.select.OrderKey.{OrderKey}
use Rattle.ifdb_bound.specs.Expressions.{value_of}
use Rattle.ifdb_bound.specs.Conditions.{holds}
use Rattle.ifdb_bound.specs.Query.{SourceRow, select}
use Rattle.ifdb_bound.proofs.Computing.{querying}

abbrev int : ℕ → Value
int n = value.Int (pos n)

abbrev text : List ℕ → Value
text t = value.Text t

abbrev at : ℕ → ℕ → BoundColumn
at source column = record { source = source; column = column }

abbrev eq : Value → Value → BoundCond
eq a b = c.Compare (o.Literal a) how.Equal (o.Literal b)

-- ---- operations at the ends of the range

abbrev largest : Value
largest = int (2 ^ 63 - 1)

one_more : value_of [] (e.Add (e.Literal largest) (e.Literal (int 1))) ≡ None
unfolding querying
one_more = refl

-- (1 + 1) * (3 - 1) + c, where c is 5
nested : value_of ((int 5 ∷ []) ∷ [])
    (e.Add (e.Mul (e.Add (e.Literal (int 1)) (e.Literal (int 1))) (e.Sub (e.Literal (int 3)) (e.Literal (int 1)))) (e.Column (at 0 0))) ≡ Some (int 9)
unfolding querying
nested = refl

-- an operation inside is out of range, though the whole is not
inner_out : value_of [] (e.Sub (e.Add (e.Literal largest) (e.Literal (int 1))) (e.Literal (int 1))) ≡ None
unfolding querying
inner_out = refl

-- NOT 1 = 1 OR (1 = 1 AND 2 = 2)
chains : holds [] (c.Or (c.Not (eq (int 1) (int 1)) ∷ c.And (eq (int 1) (int 1) ∷ eq (int 2) (int 2) ∷ []) ∷ [])) ≡ true
unfolding querying
chains = refl

-- ---- comparisons

-- how 5 compares with a number
abbrev five : Compare → ℕ → Bool
five how n = holds [] (c.Compare (o.Literal (int 5)) how (o.Literal (int n)))

-- with 4, with 5 and with 6
abbrev beside : Compare → List Bool
beside how = five how 4 ∷ five how 5 ∷ five how 6 ∷ []

equal : beside how.Equal ≡ false ∷ true ∷ false ∷ []
unfolding querying
equal = refl

not_equal : beside how.NotEqual ≡ true ∷ false ∷ true ∷ []
unfolding querying
not_equal = refl

less : beside how.Less ≡ false ∷ false ∷ true ∷ []
unfolding querying
less = refl

at_most : beside how.AtMost ≡ false ∷ true ∷ true ∷ []
unfolding querying
at_most = refl

more : beside how.Greater ≡ true ∷ false ∷ false ∷ []
unfolding querying
more = refl

at_least : beside how.AtLeast ≡ true ∷ true ∷ false ∷ []
unfolding querying
at_least = refl

-- texts by their bytes: 'Z' before 'a', and a prefix first
texts : holds [] (c.Compare (o.Literal (text (codes "Z"))) how.Less (o.Literal (text (codes "a")))) ≡ true
unfolding querying
texts = refl

prefix : holds [] (c.Compare (o.Literal (text (codes "ab"))) how.Less (o.Literal (text (codes "abc")))) ≡ true
unfolding querying
prefix = refl

-- ---- queries

-- a row at a label
abbrev row : List Value → List ℕ → SourceRow
row values label = record { values = values; label = label }

abbrev plain : List BoundItem → Option BoundCond → List BoundColumn → List OrderKey → BoundSelect
plain items cond group order = record { items = items; sources = []; cond = cond; group = group; order = order }

abbrev shows : ℕ → ℕ → BoundItem
shows source column = item.Expr (e.Column (at source column))

abbrev by : ℕ → Bool → OrderKey
by place descending = record { place = place; descending = descending }

-- note (id, body) with (1, 'x'), (2, 'y') and (3, 'x')
abbrev notes : List SourceRow
notes = row (int 1 ∷ text (codes "x") ∷ []) [] ∷ row (int 2 ∷ text (codes "y") ∷ []) [] ∷ row (int 3 ∷ text (codes "x") ∷ []) [] ∷ []

-- SELECT id, body FROM note ORDER BY body DESC
stable : select [] (plain (shows 0 0 ∷ shows 0 1 ∷ []) None [] (by 1 true ∷ [])) (notes ∷ [])
    ≡ Some ((int 2 ∷ text (codes "y") ∷ []) ∷ (int 1 ∷ text (codes "x") ∷ []) ∷ (int 3 ∷ text (codes "x") ∷ []) ∷ [])
unfolding querying
stable = refl

-- SELECT body, COUNT(*) FROM note GROUP BY body
groups : select [] (plain (shows 0 1 ∷ item.CountAll ∷ []) None (at 0 1 ∷ []) []) (notes ∷ [])
    ≡ Some ((text (codes "x") ∷ int 2 ∷ []) ∷ (text (codes "y") ∷ int 1 ∷ []) ∷ [])
unfolding querying
groups = refl

-- SELECT COUNT(*) FROM note, without rows
count_of_nothing : select [] (plain (item.CountAll ∷ []) None [] []) ([] ∷ []) ≡ Some ((int 0 ∷ []) ∷ [])
count_of_nothing = refl

-- the same under GROUP BY
groups_of_nothing : select [] (plain (item.CountAll ∷ []) None (at 0 1 ∷ []) []) ([] ∷ []) ≡ Some []
groups_of_nothing = refl

-- SELECT body, MIN(id), MAX(id) FROM note GROUP BY body ORDER BY 2 DESC
ends : select [] (plain (shows 0 1 ∷ item.Min (at 0 0) ∷ item.Max (at 0 0) ∷ []) None (at 0 1 ∷ []) (by 1 true ∷ [])) (notes ∷ [])
    ≡ Some ((text (codes "y") ∷ int 2 ∷ int 2 ∷ []) ∷ (text (codes "x") ∷ int 1 ∷ int 3 ∷ []) ∷ [])
unfolding querying
ends = refl

-- num (k, g, v)
abbrev num : ℕ → ℕ → Value → SourceRow
num k g v = row (int k ∷ int g ∷ v ∷ []) []

-- SELECT g, SUM(v) FROM num GROUP BY g
abbrev sums : BoundSelect
sums = plain (shows 0 1 ∷ item.Sum (at 0 2) ∷ []) None (at 0 1 ∷ []) []

sum_out : select [] sums ((num 1 1 largest ∷ num 2 1 largest ∷ []) ∷ []) ≡ None
unfolding querying
sum_out = refl

-- a sum is judged at its end alone
sum_in : select [] sums ((num 1 1 largest ∷ num 2 1 largest ∷ num 3 1 (value.Int (negsuc (2 ^ 63 - 2))) ∷ []) ∷ []) ≡ Some ((int 1 ∷ largest ∷ []) ∷ [])
unfolding querying
sum_in = refl

-- SELECT v - 1 FROM num WHERE k = 4
abbrev less_one : BoundSelect
less_one = plain (item.Expr (e.Sub (e.Column (at 0 2)) (e.Literal (int 1))) ∷ []) (Some (c.Compare (o.Column (at 0 0)) how.Equal (o.Literal (int 4)))) [] []

item_out : select [] less_one ((num 4 2 (value.Int (negsuc (2 ^ 63 - 1))) ∷ []) ∷ []) ≡ None
unfolding querying
item_out = refl

-- a row that the condition leaves out isn't computed
item_left_out : select [] less_one ((num 5 2 (value.Int (negsuc (2 ^ 63 - 1))) ∷ []) ∷ []) ≡ Some []
unfolding querying
item_left_out = refl

-- SELECT note.id, bill.pence, LABEL OF note FROM note, bill WHERE note.id = bill.id, where note's rows are at {a} and {a,b}
abbrev noted_bills : BoundSelect
noted_bills = plain (shows 0 0 ∷ shows 1 1 ∷ item.LabelOf 0 ∷ []) (Some (c.Compare (o.Column (at 0 0)) how.Equal (o.Column (at 1 0)))) [] []

join : select (codes "a" ∷ codes "b" ∷ []) noted_bills
    ((row (int 1 ∷ []) (0 ∷ []) ∷ row (int 2 ∷ []) (0 ∷ 1 ∷ []) ∷ []) ∷ (row (int 1 ∷ int 250 ∷ []) [] ∷ row (int 2 ∷ int 90 ∷ []) [] ∷ []) ∷ [])
    ≡ Some ((int 1 ∷ int 250 ∷ text (codes "{a}") ∷ []) ∷ (int 2 ∷ int 90 ∷ text (codes "{a,b}") ∷ []) ∷ [])
unfolding querying
join = refl
