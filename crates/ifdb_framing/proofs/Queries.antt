-- A SELECT gives clean rows of clean ones, where its items and the names of tags are clean.
use Rattle.std.proofs.Common.{◌≡◌, ℕ, ℤ, Bool, true, List, [], ◌∷◌, ◌++◌, length, refl, pos, Some, None, Option}
use Rattle.std.specs.Prelude.{map, not, codes, slice_index_or, option_map}
use Rattle.std.specs.List.{list_all, list_any, fold}
use Rattle.std.specs.Ordering.{is_lt}
use Rattle.std.proofs.lemmas.Bool.{and_parts}
use Rattle.ifdb_catalog.proofs.Tests.{both_of}
use Rattle.ifdb_value.specs.declared.value.Value.{Value}
use Rattle.ifdb_value.specs.Value.{value_cmp, is_null}
use Rattle.ifdb_value.proofs.Lists.{all-filter}
use Rattle.ifdb_bound.specs.declared.expression.BoundColumn.{BoundColumn}
use Rattle.ifdb_bound.specs.declared.select.BoundItem.{BoundItem}
use Rattle.ifdb_bound.specs.declared.select.BoundItem.TheVariants as item
use Rattle.ifdb_bound.specs.declared.select.BoundSelect.{BoundSelect}
use Rattle.ifdb_bound.specs.declared.select.OrderKey.{OrderKey}
use Rattle.ifdb_bound.specs.Expressions.{column_value}
use Rattle.ifdb_bound.specs.Conditions.{passes}
use Rattle.ifdb_bound.specs.Query.{SourceRow, Combination, values_of, no_row, combinations, matching, group_key, same_values, Group, with_member, groups_by, is_aggregate, answer_groups, label_names, label_text, column_of, given, total, sum_value, lesser, greater, best, or_null, first_of, item_value, both, all_some, answer_row, order_cmp, with_row, sorted_by, select}
use Rattle.ifdb_expr.proofs.Views.{combined}
use Rattle.ifdb_laws.specs.Bytes.{is_line}
use Rattle.ifdb_framing.proofs.Lists.{pick, all_push, all_map, at_or}
use Rattle.ifdb_framing.proofs.Lines.{line_append, names_line}
use Rattle.ifdb_framing.proofs.Clean.{is_clean, are_clean, if_there, is_clean_source, is_clean_bound_item, is_clean_query}
use Rattle.ifdb_framing.proofs.Values.{column_clean, in_range_clean, value_clean}

-- ---- options

pub if_map : {X Y : Type 0} (p : X → Bool) (r : Y → Bool) (f : X → Y) (o : Option X) → ((x : X) → p x ≡ true → r (f x) ≡ true) → if_there p o ≡ true → if_there r (option_map f o) ≡ true
if_map p r f None h k = refl
if_map p r f (Some x) h k = h x k

if_both : {X : Type 0} (p : X → Bool) (o : Option X) (os : Option (List X)) → if_there p o ≡ true → if_there (list_all p) os ≡ true → if_there (list_all p) (both o os) ≡ true
if_both p None os h k = refl
if_both p (Some x) None h k = refl
if_both p (Some x) (Some xs) h k = both_of (p x) (list_all p xs) h k

pub if_all : {X : Type 0} (p : X → Bool) (os : List (Option X)) → list_all (if_there p) os ≡ true → if_there (list_all p) (all_some os) ≡ true
if_all p [] h = refl
if_all p (o ∷ os) h =
    let parts = and_parts (if_there p o) (list_all (if_there p) os) h in
    if_both p o (all_some os) parts.0 (if_all p os parts.1)

-- ---- which combinations

abbrev pub is_clean_combination : Combination → Bool
is_clean_combination rows = list_all is_clean_source rows

abbrev pub are_clean_combinations : List Combination → Bool
are_clean_combinations all = list_all is_clean_combination all

pub matching_clean : (s : BoundSelect) (sources : List (List SourceRow)) → list_all (list_all is_clean_source) sources ≡ true → are_clean_combinations (matching s sources) ≡ true
matching_clean s sources h = all-filter (λ rows. passes s.cond (values_of rows)) is_clean_combination (combinations sources) (combined is_clean_source sources h)

-- ---- groups

abbrev is_clean_group : Group → Bool
is_clean_group g = are_clean_combinations g.members

with_clean : (columns : List BoundColumn) (groups : List Group) (rows : Combination) → list_all is_clean_group groups ≡ true → is_clean_combination rows ≡ true → list_all is_clean_group (with_member columns groups rows) ≡ true
with_clean columns [] rows h k = both_of _ _ (both_of (is_clean_combination rows) true k refl) refl
with_clean columns (g ∷ groups) rows h k =
    let parts = and_parts (is_clean_group g) (list_all is_clean_group groups) h in
    pick (list_all is_clean_group) (same_values g.key (group_key columns rows)) (record g { members = g.members ++ rows ∷ [] } ∷ groups) (g ∷ with_member columns groups rows)
    (both_of _ _ (all_push is_clean_combination g.members rows parts.0 k) parts.1)
    (both_of _ _ parts.0 (with_clean columns groups rows parts.1 k))

grouped_clean : (columns : List BoundColumn) (groups : List Group) (all : List Combination) → list_all is_clean_group groups ≡ true → are_clean_combinations all ≡ true
    → list_all is_clean_group (fold (with_member columns) groups all) ≡ true
grouped_clean columns groups [] h k = h
grouped_clean columns groups (rows ∷ all) h k =
    let parts = and_parts (is_clean_combination rows) (are_clean_combinations all) k in
    grouped_clean columns (with_member columns groups rows) all (with_clean columns groups rows h parts.0) parts.1

groups_clean : (columns : List BoundColumn) (all : List Combination) → are_clean_combinations all ≡ true → list_all are_clean_combinations (groups_by columns all) ≡ true
groups_clean columns all h = all_map is_clean_group are_clean_combinations (λ (g : Group). g.members) (fold (with_member columns) [] all) (λ g e. e) (grouped_clean columns [] all refl h)

answered_clean : (s : BoundSelect) (columns : List BoundColumn) (all : List Combination) → are_clean_combinations all ≡ true → list_all are_clean_combinations (answer_groups s columns all) ≡ true
answered_clean s [] all h =
    pick (list_all are_clean_combinations) (list_any is_aggregate s.items) (all ∷ []) (map (λ rows. rows ∷ []) all) (both_of _ _ h refl)
    (all_map is_clean_combination are_clean_combinations (λ rows. rows ∷ []) all (λ rows e. both_of _ _ e refl) h)
answered_clean s (c ∷ columns) all h = groups_clean (c ∷ columns) all h

-- ---- items

values_clean : (rows : Combination) → is_clean_combination rows ≡ true → list_all are_clean (values_of rows) ≡ true
values_clean rows h = all_map is_clean_source are_clean (λ (r : SourceRow). r.values) rows (λ r e. e) h

first_clean : (members : List Combination) → are_clean_combinations members ≡ true → is_clean_combination (first_of members) ≡ true
first_clean members h = at_or is_clean_combination [] members 0 refl h

column_of_clean : (c : BoundColumn) (members : List Combination) → are_clean_combinations members ≡ true → are_clean (column_of c members) ≡ true
column_of_clean c members h = all_map is_clean_combination is_clean (λ rows. column_value (values_of rows) c) members (λ rows e. column_clean (values_of rows) c (values_clean rows e)) h

-- a choice of two values gives one of them
abbrev Chooses : (Value → Value → Value) → Type 0
Chooses choose = (a b : Value) → is_clean a ≡ true → is_clean b ≡ true → is_clean (choose a b) ≡ true

lesser_clean : Chooses lesser
lesser_clean a b h k = pick is_clean (is_lt (value_cmp b a)) b a k h

greater_clean : Chooses greater
greater_clean a b h k = pick is_clean (is_lt (value_cmp a b)) b a k h

chosen_clean : (choose : Value → Value → Value) → Chooses choose → (v : Value) (values : List Value) → is_clean v ≡ true → are_clean values ≡ true → is_clean (fold choose v values) ≡ true
chosen_clean choose c v [] h k = h
chosen_clean choose c v (w ∷ values) h k =
    let parts = and_parts (is_clean w) (are_clean values) k in
    chosen_clean choose c (choose v w) values (c v w h parts.0) parts.1

best_clean : (choose : Value → Value → Value) → Chooses choose → (values : List Value) → are_clean values ≡ true → if_there is_clean (best choose values) ≡ true
best_clean choose c [] h = refl
best_clean choose c (v ∷ values) h = let parts = and_parts (is_clean v) (are_clean values) h in chosen_clean choose c v values parts.0 parts.1

given_clean : (values : List Value) → are_clean values ≡ true → are_clean (given values) ≡ true
given_clean values h = all-filter (λ v. not (is_null v)) is_clean values h

sum_clean : (n : Option ℤ) → if_there is_clean (sum_value n) ≡ true
sum_clean None = refl
sum_clean (Some n) = in_range_clean n

or_null_clean : (o : Option Value) → if_there is_clean o ≡ true → is_clean (or_null o) ≡ true
or_null_clean None h = refl
or_null_clean (Some v) h = h

-- MIN or MAX of the values that aren't NULL
end_clean : (choose : Value → Value → Value) → Chooses choose → (values : List Value) → are_clean values ≡ true → is_clean (or_null (best choose (given values))) ≡ true
end_clean choose c values h = or_null_clean (best choose (given values)) (best_clean choose c (given values) (given_clean values h))

label_clean : (names : List (List ℕ)) (label : List ℕ) → list_all is_line names ≡ true → is_clean (label_text names label) ≡ true
label_clean names label h = line_append (codes "{") (label_names names label ++ codes "}") refl (line_append (label_names names label) (codes "}") (names_line names label h) refl)

module _ (names : List (List ℕ)) (lines : list_all is_line names ≡ true) where
  item_clean : (members : List Combination) → are_clean_combinations members ≡ true → (x : BoundItem) → is_clean_bound_item x ≡ true → if_there is_clean (item_value names members x) ≡ true
  item_clean members h (item.Expr e) k = value_clean (values_of (first_of members)) (values_clean (first_of members) (first_clean members h)) e k
  item_clean members h (item.LabelOf source) k = label_clean names (slice_index_or (first_of members) source no_row).label lines
  item_clean members h item.CountAll k = in_range_clean (pos (length members))
  item_clean members h (item.Sum c) k = sum_clean (total (given (column_of c members)))
  item_clean members h (item.Min c) k = end_clean lesser lesser_clean (column_of c members) (column_of_clean c members h)
  item_clean members h (item.Max c) k = end_clean greater greater_clean (column_of c members) (column_of_clean c members h)

  pub answer_row_clean : (items : List BoundItem) (members : List Combination) → list_all is_clean_bound_item items ≡ true → are_clean_combinations members ≡ true
      → if_there are_clean (answer_row names items members) ≡ true
  answer_row_clean items members k h =
      if_all is_clean (map (item_value names members) items) (all_map is_clean_bound_item (if_there is_clean) (item_value names members) items (λ x e. item_clean members h x e) k)

-- ---- order

with_row_clean : (keys : List OrderKey) (row : List Value) (rows : List (List Value)) → are_clean row ≡ true → list_all are_clean rows ≡ true → list_all are_clean (with_row keys row rows) ≡ true
with_row_clean keys row [] h k = both_of (are_clean row) true h refl
with_row_clean keys row (r ∷ rows) h k =
    let parts = and_parts (are_clean r) (list_all are_clean rows) k in
    pick (list_all are_clean) (is_lt (order_cmp keys r row)) (r ∷ with_row keys row rows) (row ∷ r ∷ rows)
    (both_of (are_clean r) (list_all are_clean (with_row keys row rows)) parts.0 (with_row_clean keys row rows h parts.1))
    (both_of (are_clean row) (list_all are_clean (r ∷ rows)) h k)

sorted_clean : (keys : List OrderKey) (rows : List (List Value)) → list_all are_clean rows ≡ true → list_all are_clean (sorted_by keys rows) ≡ true
sorted_clean keys [] h = refl
sorted_clean keys (row ∷ rows) h =
    let parts = and_parts (are_clean row) (list_all are_clean rows) h in
    with_row_clean keys row (sorted_by keys rows) parts.0 (sorted_clean keys rows parts.1)

-- ---- the answer

pub select_clean : (names : List (List ℕ)) → list_all is_line names ≡ true → (s : BoundSelect) → is_clean_query s ≡ true → (sources : List (List SourceRow)) → list_all (list_all is_clean_source) sources ≡ true
    → if_there (list_all are_clean) (select names s sources) ≡ true
select_clean names lines s k sources h =
    let groups = answer_groups s s.group (matching s sources) in
    let all = answered_clean s s.group (matching s sources) (matching_clean s sources h) in
    if_map (list_all are_clean) (list_all are_clean) (sorted_by s.order) (all_some (map (answer_row names s.items) groups)) (sorted_clean s.order)
    (if_all are_clean (map (answer_row names s.items) groups)
    (all_map are_clean_combinations (if_there are_clean) (answer_row names s.items) groups (λ members e. answer_row_clean names lines s.items members k e) all))
