-- The labels of a view's rows.
use Rattle.std.proofs.Common.{eqb, ◌≡◌, ℕ, Bool, true, List, [], ◌∷◌, ◌++◌, refl, sym, ap, ◌∙◌, arith, Some, None, Option}
use Rattle.std.specs.Prelude.{map, flat_map, not, option_map}
use Rattle.std.specs.List.{list_all}
use Rattle.std.proofs.lemmas.Bool.Decides.{nat_tests}
use Rattle.std.proofs.lemmas.List.Folds.{list_any-append, list_all-append, list_all-map}
use Rattle.ifdb_label.specs.Tags.{MadeTag}
use Rattle.ifdb_label.specs.Label.{is_below_some, flows, reduce, union, strip}
use Rattle.ifdb_label.proofs.LabelLaws.{reduce_all, reduce_any, strip_all}
use Rattle.ifdb_row.specs.declared.row.Row.{Row}
use Rattle.ifdb_row.specs.Seen.{see}
use Rattle.ifdb_value.proofs.Lists.{all_wider, all-filter, filter_passes}
use Rattle.ifdb_value.specs.declared.value.Value.{Value}
use Rattle.ifdb_bound.specs.declared.schema.ViewDef.{ViewDef}
use Rattle.ifdb_bound.specs.declared.select.BoundSource.{BoundSource}
use Rattle.ifdb_bound.specs.declared.select.Relation.{Relation}
use Rattle.ifdb_bound.specs.declared.select.Relation.TheVariants as relation
use Rattle.ifdb_bound.specs.Conditions.{passes}
use Rattle.ifdb_bound.specs.Query.{SourceRow, Combination, values_of, combinations, matching, both, all_some, answer_row}
use Rattle.ifdb_expr.specs.View.{Setting, source_row, of_table, table_rows, base_rows, base_sources, view_label, labelled, view_row, view_rows}

all_both : (p q r : ℕ → Bool) (list : List ℕ) → ((t : ℕ) → p t ≡ true → q t ≡ true → r t ≡ true) → list_all p list ≡ true → list_all q list ≡ true → list_all r list ≡ true
all_both p q r [] h a b = refl
all_both p q r (t ∷ list) h a b = grind (arith, nat_tests, all_both p q r list h, h t)

-- tags that flow to a label with others, without those below the others, flow to the label
pub stripped_flows : (tags : List MadeTag) (a label given : List ℕ) → flows tags a (union tags label given) ≡ true → flows tags (strip tags (reduce tags a) given) label ≡ true
stripped_flows tags a label given h =
    let up : ℕ → Bool = λ t. is_below_some tags t (union tags label given) in
    let out : ℕ → Bool = λ t. not (is_below_some tags t given) in
    all_both up out (λ t. is_below_some tags t label) (strip tags (reduce tags a) given) (step tags label given)
    (strip_all tags up (reduce tags a) given (reduce_all tags up a h)) (filter_passes out (reduce tags a)) where
      step : (tags : List MadeTag) (label given : List ℕ) (t : ℕ) → is_below_some tags t (union tags label given) ≡ true → not (is_below_some tags t given) ≡ true → is_below_some tags t label ≡ true
      step tags label given t i j = grind (arith, nat_tests, reduce_any tags (λ u. Rattle.ifdb_label.specs.Tags.below tags t u) (label ++ given) i, list_any-append (λ u. Rattle.ifdb_label.specs.Tags.below tags t u) label given)

-- each row of each source passes a test, and so does each row of each combination
abbrev pub each : (SourceRow → Bool) → List (List SourceRow) → Bool
each p sources = list_all (list_all p) sources

with_each : (p : SourceRow → Bool) (r : SourceRow) (all : List Combination) → p r ≡ true → each p all ≡ true → each p (map (λ c. r ∷ c) all) ≡ true
with_each p r [] h k = refl
with_each p r (c ∷ all) h k = grind (arith, nat_tests, with_each p r all h)

spread : (p : SourceRow → Bool) (all : List Combination) (rows : List SourceRow) → each p all ≡ true → list_all p rows ≡ true → each p (flat_map (λ r. map (λ c. r ∷ c) all) rows) ≡ true
spread p all [] h k = refl
spread p all (r ∷ rows) h k =
    let parts : (p r ≡ true) × (list_all p rows ≡ true) = grind (arith, nat_tests) in
    let one = with_each p r all parts.0 h in
    let two = spread p all rows h parts.1 in
    let both = list_all-append (list_all p) (map (λ c. r ∷ c) all) (flat_map (λ r. map (λ c. r ∷ c) all) rows) in
    grind (arith, nat_tests)

pub combined : (p : SourceRow → Bool) (sources : List (List SourceRow)) → each p sources ≡ true → each p (combinations sources) ≡ true
combined p [] h = refl
combined p (rows ∷ sources) h =
    let parts : (list_all p rows ≡ true) × (each p sources ≡ true) = grind (arith, nat_tests) in
    spread p (combinations sources) rows (combined p sources parts.1) parts.0

-- the rows of a view's sources are seen
abbrev is_seen_row : List MadeTag → List ℕ → SourceRow → Bool
is_seen_row tags label r = flows tags r.label label

table_seen : (tags : List MadeTag) (rows : List Row) (table : ℕ) (label : List ℕ) → list_all (is_seen_row tags label) (table_rows tags rows table label) ≡ true
table_seen tags rows table label =
    list_all-map (is_seen_row tags label) source_row (of_table table (see tags rows label))
    ∙ all-filter (λ (r : Row). eqb r.slot.table table) (λ (r : Row). flows tags r.slot.label label) (see tags rows label) (filter_passes (λ (r : Row). flows tags r.slot.label label) rows)

base_seen : (tags : List MadeTag) (rows : List Row) (label : List ℕ) (x : Relation) → list_all (is_seen_row tags label) (base_rows tags rows label x) ≡ true
base_seen tags rows label (relation.Table t) = table_seen tags rows t label
base_seen tags rows label (relation.View v) = refl

bases_seen : (tags : List MadeTag) (rows : List Row) (label : List ℕ) (sources : List BoundSource) → each (is_seen_row tags label) (map (λ (s : BoundSource). base_rows tags rows label s.relation) sources) ≡ true
bases_seen tags rows label [] = refl
bases_seen tags rows label (s ∷ sources) = grind (arith, nat_tests, base_seen tags rows label s.relation, bases_seen tags rows label sources)

-- so the labels of a combination flow where the rows are seen
labels_flow : (tags : List MadeTag) (label : List ℕ) (c : Combination) → list_all (is_seen_row tags label) c ≡ true → flows tags (flat_map (λ (r : SourceRow). r.label) c) label ≡ true
labels_flow tags label [] h = refl
labels_flow tags label (r ∷ c) h = grind (arith, nat_tests, labels_flow tags label c, list_all-append (λ t. is_below_some tags t label) r.label (flat_map (λ (r : SourceRow). r.label) c))

abbrev shown_of : Option (List SourceRow) → List SourceRow
shown_of None = []
shown_of (Some rows) = rows

-- each of the rows of a view
view_all : (set : Setting) (v : ViewDef) (label : List ℕ) (all : List Combination) (shown : List SourceRow) → list_all (λ c. flows set.tags (view_label set.tags v c) label) all ≡ true
    → all_some (map (view_row set v) all) ≡ Some shown → list_all (is_seen_row set.tags label) shown ≡ true
view_all set v label [] shown h e = ap (λ o. list_all (is_seen_row set.tags label) (shown_of o)) (sym e)
view_all set v label (c ∷ all) shown h e =
    by (answer_row set.names v.select.items (c ∷ [])) (all_some (map (view_row set v) all)) (view_all set v label all) (grind (arith, nat_tests)) (grind (arith, nat_tests)) e where
      by : (o : Option (List Value)) (rest : Option (List SourceRow)) → ((shown : List SourceRow) → list_all (λ c. flows set.tags (view_label set.tags v c) label) all ≡ true → rest ≡ Some shown → list_all (is_seen_row set.tags label) shown ≡ true)
          → flows set.tags (view_label set.tags v c) label ≡ true → list_all (λ c. flows set.tags (view_label set.tags v c) label) all ≡ true
          → both (option_map (labelled (view_label set.tags v c)) o) rest ≡ Some shown → list_all (is_seen_row set.tags label) shown ≡ true
      by None rest ih one more e = cc
      by (Some values) None ih one more e = cc
      by (Some values) (Some rows) ih one more e = ap (λ o. list_all (is_seen_row set.tags label) (shown_of o)) (sym e) ∙ grind (arith, nat_tests, ih rows more refl)

pub view_seen : (set : Setting) (rows : List Row) (label : List ℕ) (v : ViewDef) (shown : List SourceRow) → view_rows set rows label v ≡ Some shown
    → list_all (λ (r : SourceRow). flows set.tags r.label label) shown ≡ true
view_seen set rows label v shown e =
    let wide = union set.tags label v.declassifying in
    let sources = base_sources set.tags rows v label in
    let seen : each (is_seen_row set.tags wide) (combinations sources) ≡ true = combined (is_seen_row set.tags wide) sources (bases_seen set.tags rows wide v.select.sources) in
    let kept : each (is_seen_row set.tags wide) (matching v.select sources) ≡ true = all-filter (λ c. passes v.select.cond (values_of c)) (list_all (is_seen_row set.tags wide)) (combinations sources) seen in
    view_all set v label (matching v.select sources) shown
    (all_wider (list_all (is_seen_row set.tags wide)) (λ c. flows set.tags (view_label set.tags v c) label) (matching v.select sources)
    (λ c h. stripped_flows set.tags (flat_map (λ (r : SourceRow). r.label) c) label v.declassifying (labels_flow set.tags wide c h)) kept) e
