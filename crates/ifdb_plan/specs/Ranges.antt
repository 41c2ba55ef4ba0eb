-- What comparisons with literals say of the columns of a key.
use Rattle.std.specs.Prelude.{◌≡◌, ℕ, Bool, true, false, List, [], ◌∷◌, ◌++◌, ◌&&◌, not, Option, Some, None, if◌then◌else◌}
use Rattle.std.specs.List.{list_all}
use Rattle.std.specs.declared.cmp.Ordering.{Ordering}
use Rattle.std.specs.declared.cmp.Ordering.TheVariants.{Less, Equal, Greater}
use Rattle.std.specs.Ordering.{is_eq, is_le, is_lt}
use Rattle.ifdb_value.specs.declared.value.Value.{Value}
use Rattle.ifdb_value.specs.declared.value.Compare.{Compare}
use Rattle.ifdb_value.specs.declared.value.Compare.TheVariants as how
use Rattle.ifdb_value.specs.Value.{value_cmp}
use Rattle.ifdb_row.specs.declared.range.Side.{Side}
use Rattle.ifdb_row.specs.declared.range.Side.TheVariants as side
use Rattle.ifdb_row.specs.declared.range.Cut.{Cut}
use Rattle.ifdb_row.specs.declared.range.KeyRange.{KeyRange}
use Rattle.ifdb_row.specs.Ranges.{is_before, lies_in}
use Rattle.ifdb_bound.specs.declared.condition.BoundCond.{BoundCond}
use Rattle.ifdb_bound.specs.declared.condition.BoundCond.TheOpen.{BoundCond-F}
use Rattle.ifdb_bound.specs.declared.condition.BoundCond.TheViews.{out-BoundCond}
use Rattle.ifdb_bound.specs.declared.expression.BoundColumn.{BoundColumn}
use Rattle.ifdb_bound.specs.declared.expression.BoundOperand.{BoundOperand}
use Rattle.ifdb_bound.specs.declared.expression.BoundOperand.TheVariants as operand
use Rattle.ifdb_plan.specs.declared.range.Limit.{Limit}
use Rattle.ifdb_plan.specs.declared.range.End.{End}
use Rattle.ifdb_plan.specs.declared.range.Ends.{Ends}
use Rattle.ifdb_bound.specs.Conditions.{passes}
use Rattle.ifdb_plan.specs.Keys.{column_at, fields, is_column}

-- a comparison of a column with a value, the column on the left
pub record Bound : Type 0 where
  pub how : Compare
  pub value : Value

-- a comparison from its other side
abbrev pub turned : Compare → Compare
turned how.Equal = how.Equal
turned how.NotEqual = how.NotEqual
turned how.Less = how.Greater
turned how.AtMost = how.AtLeast
turned how.Greater = how.Less
turned how.AtLeast = how.AtMost

-- a literal bounds what it is compared with
abbrev pub bound_by : Compare → BoundOperand → Option Bound
bound_by how (operand.Literal v) = Some (record { how = how; value = v })
bound_by how (operand.Column c) = None

-- how one of two compared operands bounds a column that the other is
abbrev pub bound_between : BoundColumn → BoundOperand → Compare → BoundOperand → Option Bound
bound_between c a how b = if is_column c a then bound_by how b else (if is_column c b then bound_by (turned how) a else None)

abbrev pub bound_of : BoundColumn → BoundCond-F BoundCond → Option Bound
bound_of c (BoundCond-F.Compare a how b) = bound_between c a how b
bound_of c other = None

-- how a condition bounds a column, if it does
abbrev pub bound_in : BoundColumn → BoundCond → Option Bound
bound_in c cond = bound_of c (out-BoundCond cond)

-- the one value that a bound leaves
abbrev pub one_value : Compare → Value → Option Value
one_value how.Equal v = Some v
one_value other v = None

abbrev pub fixed_by : Option Bound → Option Value
fixed_by None = None
fixed_by (Some b) = one_value b.how b.value

abbrev pub or_else : Option Value → Option Value → Option Value
or_else None o = o
or_else (Some v) o = Some v

-- the value that the first condition leaves a column which leaves it one
abbrev pub fixed_value : BoundColumn → List BoundCond → Option Value
fixed_value c [] = None
fixed_value c (cond ∷ conds) = or_else (fixed_by (bound_in c cond)) (fixed_value c conds)

-- a value lies on the bound's side, where that is one
abbrev pub lies_by : Value → Compare → Value → Bool
lies_by v how.Less w = is_lt (value_cmp v w)
lies_by v how.AtMost w = is_le (value_cmp v w)
lies_by v how.Greater w = not (is_le (value_cmp v w))
lies_by v how.AtLeast w = not (is_lt (value_cmp v w))
lies_by v how.Equal w = true
lies_by v how.NotEqual w = true

abbrev pub lies_within : Value → Option Bound → Bool
lies_within v None = true
lies_within v (Some b) = lies_by v b.how b.value

-- a value lies within all bounds of its column
abbrev pub lies_between : BoundColumn → List BoundCond → Value → Bool
lies_between c conds v = list_all (λ cond. lies_within v (bound_in c cond)) conds

-- a value is the one that is left of its column, and the others meet what is said of theirs; where none is left, it lies within the bounds
abbrev pub meets_first : Option Value → Value → Bool → Bool → Bool
meets_first (Some w) v within others = is_eq (value_cmp v w) && others
meets_first None v within others = within

-- a key's values meet what is said of its columns, up to the first column that isn't left one value
abbrev pub meets : List BoundCond → ℕ → List ℕ → List Value → Bool
meets conds place [] values = true
meets conds place (k ∷ key) [] = false
meets conds place (k ∷ key) (v ∷ values) =
    meets_first (fixed_value (column_at place k) conds) v (lies_between (column_at place k) conds v) (meets conds place key values)

-- each row for which the condition over one source holds has its key in the range
pub record HasRange (cond : Option BoundCond) (key : List ℕ) (range : KeyRange) : Type 0 where
  pub each : (row : List Value) → passes cond (row ∷ []) ≡ true → lies_in range (fields key row) ≡ true

-- ---- the code's parts

abbrev pub bound_is : Limit → Bound
bound_is l = record { how = l.how; value = l.value.now }

-- a value stands before an end
abbrev pub is_short : End → Value → Bool
is_short e v = is_before e.side (value_cmp v e.value.now)

abbrev pub is_behind_low : Option End → Value → Bool
is_behind_low None v = true
is_behind_low (Some e) v = not (is_short e v)

abbrev pub is_before_high : Option End → Value → Bool
is_before_high None v = true
is_before_high (Some e) v = is_short e v

-- a value lies between two ends
abbrev pub is_between : Ends → Value → Bool
is_between ends v = is_behind_low ends.low v && is_before_high ends.high v

-- an end stands behind another
abbrev pub side_behind : Side → Side → Bool
side_behind side.Behind side.Before = true
side_behind side.Behind side.Behind = false
side_behind side.Before s = false

abbrev pub ends_behind : Ordering → Bool → Bool
ends_behind Less sides = false
ends_behind Equal sides = sides
ends_behind Greater sides = true

abbrev pub stands_behind : End → End → Bool
stands_behind a b = ends_behind (value_cmp a.value.now b.value.now) (side_behind a.side b.side)

-- the cut at an end behind some values, or at the open side of them
abbrev pub cut_of : List Value → Option End → Side → Cut
cut_of front None outer = record { values = front; side = outer }
cut_of front (Some e) outer = record { values = front ++ e.value.now ∷ []; side = e.side }
