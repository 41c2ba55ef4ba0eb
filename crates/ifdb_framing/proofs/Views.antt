-- The reply to a SELECT is framed, over clean rows and a clean public state.
use Rattle.std.proofs.Common.{◌≡◌, ℕ, eqb, Bool, true, List, [], ◌∷◌, ◌++◌, length, zero, suc, refl, ◌∙◌, Some, None, Ok, Err, Option, Result, slice_get}
use Rattle.std.specs.Prelude.{map, codes, decimal}
use Rattle.std.specs.List.{list_all}
use Rattle.std.proofs.lemmas.Bool.{and_parts}
use Rattle.std.proofs.lemmas.List.Folds.{list_all-map}
use Rattle.ifdb_catalog.proofs.Tests.{both_of}
use Rattle.ifdb_value.specs.declared.value.Value.{Value}
use Rattle.ifdb_value.proofs.Lists.{all-filter}
use Rattle.ifdb_label.specs.Tags.{MadeTag}
use Rattle.ifdb_label.specs.Label.{flows, union}
use Rattle.ifdb_row.specs.declared.row.Row.{Row}
use Rattle.ifdb_row.specs.Seen.{see}
use Rattle.ifdb_bound.specs.declared.schema.ViewDef.{ViewDef}
use Rattle.ifdb_bound.specs.declared.select.BoundSelect.{BoundSelect}
use Rattle.ifdb_bound.specs.declared.select.BoundSource.{BoundSource}
use Rattle.ifdb_bound.specs.declared.select.Relation.{Relation}
use Rattle.ifdb_bound.specs.declared.select.Relation.TheVariants as relation
use Rattle.ifdb_bound.specs.Query.{SourceRow, Combination, all_some, answer_row, matching, select}
use Rattle.ifdb_expr.specs.View.{Setting, source_row, of_table, table_rows, base_rows, base_sources, view_label, labelled, view_row, view_rows}
use Rattle.ifdb_expr.specs.Query.{QueryFault, view_authority, is_allowed, rows_of_view, source_rows, answered, over_sources, query}
use Rattle.ifdb_wire.specs.declared.reply.Reply.TheVariants as reply
use Rattle.ifdb_wire.specs.Text.{row_text, rows_head}
use Rattle.ifdb_catalog.specs.Public.{Public, KnownTag, tag_names}
use Rattle.ifdb_model.specs.Query.{setting_of, fault_of, table_reply, select_reply}
use Rattle.ifdb_laws.specs.Bytes.{is_line}
use Rattle.ifdb_framing.proofs.Lists.{pick, all_map, each_map}
use Rattle.ifdb_framing.proofs.Lines.{line_append, decimal_line, fault_line}
use Rattle.ifdb_framing.proofs.Clean.{are_clean, if_there, is_clean_row, is_clean_source, is_clean_query, is_clean_view, is_clean_tag, is_clean_public, is_framed_reply}
use Rattle.ifdb_framing.proofs.Values.{row_line}
use Rattle.ifdb_framing.proofs.Queries.{if_map, if_all, is_clean_combination, matching_clean, answer_row_clean, select_clean}

-- ---- sources

table_clean : (tags : List MadeTag) (rows : List Row) (table : ℕ) (label : List ℕ) → list_all is_clean_row rows ≡ true → list_all is_clean_source (table_rows tags rows table label) ≡ true
table_clean tags rows table label h =
    all_map is_clean_row is_clean_source source_row (of_table table (see tags rows label)) (λ r e. e)
    (all-filter (λ (r : Row). eqb r.slot.table table) is_clean_row (see tags rows label) (all-filter (λ (r : Row). flows tags r.slot.label label) is_clean_row rows h))

base_clean : (tags : List MadeTag) (rows : List Row) (label : List ℕ) (x : Relation) → list_all is_clean_row rows ≡ true → list_all is_clean_source (base_rows tags rows label x) ≡ true
base_clean tags rows label (relation.Table t) h = table_clean tags rows t label h
base_clean tags rows label (relation.View v) h = refl

module _ (set : Setting) (lines : list_all is_line set.names ≡ true) (rows : List Row) (all : list_all is_clean_row rows ≡ true) where
  view_row_clean : (v : ViewDef) → is_clean_view v ≡ true → (c : Combination) → is_clean_combination c ≡ true → if_there is_clean_source (view_row set v c) ≡ true
  view_row_clean v k c h =
      if_map are_clean is_clean_source (labelled (view_label set.tags v c)) (answer_row set.names v.select.items (c ∷ [])) (λ values e. e)
      (answer_row_clean set.names lines v.select.items (c ∷ []) k (both_of (is_clean_combination c) true h refl))

  view_clean : (label : List ℕ) (v : ViewDef) → is_clean_view v ≡ true → if_there (list_all is_clean_source) (view_rows set rows label v) ≡ true
  view_clean label v k =
      let sources = base_sources set.tags rows v label in
      let each : list_all (list_all is_clean_source) sources ≡ true =
      each_map (list_all is_clean_source) (λ (s : BoundSource). base_rows set.tags rows (union set.tags label v.declassifying) s.relation) v.select.sources
      (λ s. base_clean set.tags rows (union set.tags label v.declassifying) s.relation all) in
      if_all is_clean_source (map (view_row set v) (matching v.select sources))
      (all_map is_clean_combination (if_there is_clean_source) (view_row set v) (matching v.select sources) (view_row_clean v k) (matching_clean v.select sources each))

  of_view_clean : (label : List ℕ) (o : Option ViewDef) → if_there is_clean_view o ≡ true → if_there (list_all is_clean_source) (rows_of_view set rows label o) ≡ true
  of_view_clean label None k = refl
  of_view_clean label (Some v) k = view_clean label v k

  got_clean : (views : List ViewDef) (i : ℕ) → list_all is_clean_view views ≡ true → if_there is_clean_view (slice_get views i) ≡ true
  got_clean [] i h = refl
  got_clean (v ∷ views) zero h = (and_parts (is_clean_view v) (list_all is_clean_view views) h).0
  got_clean (v ∷ views) (suc i) h = got_clean views i (and_parts (is_clean_view v) (list_all is_clean_view views) h).1

  module _ (views : list_all is_clean_view set.views ≡ true) where
    source_clean : (label : List ℕ) (x : Relation) → if_there (list_all is_clean_source) (source_rows set rows label x) ≡ true
    source_clean label (relation.Table t) = table_clean set.tags rows t label all
    source_clean label (relation.View v) = of_view_clean label (slice_get set.views v) (got_clean set.views v views)

    -- ---- the answer

    abbrev is_clean_answer : Result (List (List Value)) QueryFault → Bool
    is_clean_answer (Ok found) = list_all are_clean found
    is_clean_answer (Err f) = true

    answered_clean : (o : Option (List (List Value))) → if_there (list_all are_clean) o ≡ true → is_clean_answer (answered o) ≡ true
    answered_clean None h = refl
    answered_clean (Some found) h = h

    over_clean : (s : BoundSelect) → is_clean_query s ≡ true → (o : Option (List (List SourceRow))) → if_there (list_all (list_all is_clean_source)) o ≡ true → is_clean_answer (over_sources set s o) ≡ true
    over_clean s k None h = refl
    over_clean s k (Some sources) h = answered_clean (select set.names s sources) (select_clean set.names lines s k sources h)

    query_clean : (label : List ℕ) (s : BoundSelect) → is_clean_query s ≡ true → is_clean_answer (query set rows label s) ≡ true
    query_clean label s k =
        let found = map (λ (x : BoundSource). source_rows set rows label x.relation) s.sources in
        pick is_clean_answer (list_all (λ (x : BoundSource). is_allowed set x.relation) s.sources) (over_sources set s (all_some found)) (Err view_authority)
        (over_clean s k (all_some found) (if_all (list_all is_clean_source) found
        (each_map (if_there (list_all is_clean_source)) (λ (x : BoundSource). source_rows set rows label x.relation) s.sources (λ x. source_clean label x.relation)))) refl

    rows_framed : (columns : ℕ) (found : List (List Value)) → list_all are_clean found ≡ true → is_framed_reply (reply.Rows (record { columns = columns; rows = found })) ≡ true
    rows_framed columns found h =
        both_of (is_line (rows_head (record { columns = columns; rows = found }))) (list_all is_line (map row_text found))
        (line_append (codes "ROWS ") (decimal (length found) ++ 32 ∷ decimal columns) refl
        (line_append (decimal (length found)) (32 ∷ decimal columns) (decimal_line (length found)) (decimal_line columns)))
        (all_map are_clean is_line row_text found row_line h)

    table_framed : (columns : ℕ) (o : Result (List (List Value)) QueryFault) → is_clean_answer o ≡ true → is_framed_reply (table_reply columns o) ≡ true
    table_framed columns (Err f) h = both_of _ _ (fault_line (fault_of f)) refl
    table_framed columns (Ok found) h = rows_framed columns found h

    pub query_framed : (label : List ℕ) (s : BoundSelect) → is_clean_query s ≡ true → is_framed_reply (table_reply (length s.items) (query set rows label s)) ≡ true
    query_framed label s k = table_framed (length s.items) (query set rows label s) (query_clean label s k)

-- the names of a clean state's tags
pub tag_lines : (p : Public) → is_clean_public p ≡ true → list_all is_line (tag_names p) ≡ true
tag_lines p h = list_all-map is_line (λ (t : KnownTag). t.name) p.tags ∙ (and_parts (list_all is_clean_tag p.tags) (list_all is_clean_view p.views) h).0

pub select_framed : (p : Public) (rows : List Row) (label : List ℕ) (s : BoundSelect) → is_clean_public p ≡ true → list_all is_clean_row rows ≡ true → is_clean_query s ≡ true
    → is_framed_reply (select_reply p rows label s) ≡ true
select_framed p rows label s h all k =
    query_framed (setting_of p) (tag_lines p h) rows all (and_parts (list_all is_clean_tag p.tags) (list_all is_clean_view p.views) h).1 label s k
