-- What a SELECT tells.
use Rattle.std.proofs.Common.{◌≡◌, ℕ, Bool, true, false, List, [], ◌∷◌, length, refl, sym, ap, ◌∙◌, arith, ◌&&◌, inl, inr}
use Rattle.std.specs.Prelude.{◌⊎◌, ◌==◌, Ok, Err}
use Rattle.std.specs.List.{list_all}
use Rattle.std.proofs.lemmas.Bool.Decides.{nat_tests}
use Rattle.ifdb_value.specs.declared.value.Value.{Value}
use Rattle.ifdb_label.specs.Tags.{MadeTag}
use Rattle.ifdb_row.specs.declared.row.Row.{Row}
use Rattle.ifdb_bound.specs.declared.schema.ViewDef.{ViewDef}
use Rattle.ifdb_bound.specs.declared.select.BoundSelect.{BoundSelect}
use Rattle.ifdb_bound.specs.declared.select.BoundSource.{BoundSource}
use Rattle.ifdb_bound.specs.declared.select.Relation.{Relation}
use Rattle.ifdb_bound.specs.declared.select.Relation.TheVariants as relation
use Rattle.ifdb_row.specs.Slots.{is_same_key}
use Rattle.ifdb_plan.specs.Keys.{are_keyed, fields}
use Rattle.ifdb_view.specs.Keyed.{is_relation_keyed, are_sources_keyed, are_views_keyed}
use Rattle.ifdb_expr.specs.Query.{query}
use Rattle.ifdb_view.specs.declared.fault.ViewFault.{ViewFault}
use Rattle.ifdb_view.specs.declared.fault.ViewFault.TheVariants as view
use Rattle.ifdb_view.specs.Faults.{TellsQuery}
use Rattle.ifdb_view.specs.Made.{setting}
use Rattle.ifdb_wire.specs.declared.fault.Fault.{Fault}
use Rattle.ifdb_wire.specs.declared.fault.Fault.TheVariants as fault
use Rattle.ifdb_wire.specs.declared.reply.Reply.{Reply}
use Rattle.ifdb_wire.specs.declared.reply.Reply.TheVariants as reply
use Rattle.ifdb_catalog.specs.Public.{Public, tags_of, tag_names, has_tags, table_at}
use Rattle.ifdb_catalog.specs.Fits.{same_places, source_fits, query_fits, view_fits, state_fits}
use Rattle.ifdb_catalog.specs.Queries.{key_of}
use Rattle.ifdb_laws.specs.RowLaws.{row_fits}
use Rattle.ifdb_model.specs.Query.{select_reply, table_reply}
use Rattle.ifdb_snapshot.specs.Selecting.{view_fault}
use Rattle.ifdb_snapshot.proofs.ViewLemmas.{first_of, rest_of, all_views_fit}

-- whose views may be used
abbrev owners_of : Public → ViewDef → Bool
owners_of p v = has_tags p v.owner v.declassifying

module _ (p : Public) (rows : List Row) (label : List ℕ) (s : BoundSelect) (tags : List MadeTag) (names : List (List ℕ)) (t : tags ≡ tags_of p) (n : names ≡ tag_names p) where
  asked : select_reply p rows label s ≡ table_reply (length s.items) (query (setting tags names p.views (owners_of p)) rows label s)
  asked =
      let u = sym t in
      let m = sym n in
      λ i. table_reply (length s.items) (query (setting (u i) (m i) p.views (owners_of p)) rows label s)

  -- the rows of the answer
  pub table_told : (table : List (List Value)) → TellsQuery (query (setting tags names p.views (owners_of p)) rows label s) (Ok table)
      → select_reply p rows label s ≡ reply.Rows (record { columns = length s.items; rows = table })
  table_told table h = asked ∙ ap (table_reply (length s.items)) h

  -- the refusal
  pub fault_told : (f : ViewFault) → TellsQuery (query (setting tags names p.views (owners_of p)) rows label s) (Err f)
      → (view_fault f ≡ fault.OutOfMemory) ⊎ (select_reply p rows label s ≡ reply.Refused (view_fault f))
  fault_told view.ViewAuthority h = inr (asked ∙ ap (table_reply (length s.items)) h)
  fault_told view.OutOfRange h = inr (asked ∙ ap (table_reply (length s.items)) h)
  fault_told view.OutOfMemory h = inl refl

-- a refusal by another name
pub refused_as : {r q : Reply} {f g : Fault} → g ≡ f → q ≡ r → (f ≡ fault.OutOfMemory) ⊎ (r ≡ reply.Refused f) → (g ≡ fault.OutOfMemory) ⊎ (q ≡ reply.Refused g)
refused_as e h (inl m) = inl (e ∙ m)
refused_as e h (inr k) = inr (h ∙ k ∙ ap reply.Refused (sym e))

-- ---- rows by their keys

-- places that are the same are one list
places_are : (xs ys : List ℕ) → same_places xs ys ≡ true → xs ≡ ys
places_are [] [] h = refl
places_are [] (y ∷ ys) h = cc
places_are (x ∷ xs) [] h = cc
places_are (x ∷ xs) (y ∷ ys) h =
    let e : x ≡ y = grind (arith, nat_tests) in
    let rest = places_are xs ys (grind (arith, nat_tests)) in
    λ i. e i ∷ rest i

table_keyed : (p : Public) (t : ℕ) (rows : List Row) → list_all (row_fits p) rows ≡ true → are_keyed t (table_at p t).key rows ≡ true
table_keyed p t [] h = refl
table_keyed p t (r ∷ rows) h = by (table_keyed p t rows (grind (arith, nat_tests))) (r.slot.table == t) refl where
  by : are_keyed t (table_at p t).key rows ≡ true → (b : Bool) → (r.slot.table == t) ≡ b → are_keyed t (table_at p t).key (r ∷ rows) ≡ true
  by more true e =
      let same : r.slot.table ≡ t = grind (arith, nat_tests) in
      let one : is_same_key r.slot.key (fields (table_at p t).key r.values) ≡ true =
      ap (λ n. is_same_key r.slot.key (fields (table_at p n).key r.values)) (sym same) ∙ grind (arith, nat_tests) in
      grind (arith, nat_tests, more)
  by more false e = grind (arith, nat_tests, more)

source_keyed : (p : Public) (rows : List Row) (x : BoundSource) → list_all (row_fits p) rows ≡ true → source_fits p x ≡ true → is_relation_keyed rows x.key x.relation ≡ true
source_keyed p rows x h f = by x.relation refl where
  by : (o : Relation) → x.relation ≡ o → is_relation_keyed rows x.key o ≡ true
  by (relation.View v) e = refl
  by (relation.Table t) e =
      let fits : same_places x.key (key_of p x.relation) ≡ true = grind (arith, nat_tests) in
      let key : x.key ≡ (table_at p t).key = places_are x.key (key_of p x.relation) fits ∙ ap (key_of p) e in
      let keyed : are_keyed t x.key rows ≡ true = ap (λ k. are_keyed t k rows) key ∙ table_keyed p t rows h in
      grind (arith, nat_tests)

-- the rows have their keys where the sources of a query that fits say so
pub sources_keyed : (p : Public) (rows : List Row) (sources : List BoundSource) → list_all (row_fits p) rows ≡ true → list_all (source_fits p) sources ≡ true → are_sources_keyed rows sources ≡ true
sources_keyed p rows [] h f = refl
sources_keyed p rows (x ∷ sources) h f = let one = source_keyed p rows x h (grind (arith, nat_tests)) in grind (arith, nat_tests, sources_keyed p rows sources h)

pub query_keyed : (p : Public) (rows : List Row) (s : BoundSelect) → list_all (row_fits p) rows ≡ true → query_fits p s ≡ true → are_sources_keyed rows s.sources ≡ true
query_keyed p rows s h f = sources_keyed p rows s.sources h (grind (arith, nat_tests))

both_are : (a b : Bool) → a ≡ true → b ≡ true → (a && b) ≡ true
both_are true b h k = k
both_are false b h k = h

views_are_keyed : (p : Public) (rows : List Row) (views : List ViewDef) → list_all (row_fits p) rows ≡ true → list_all (view_fits p) views ≡ true → are_views_keyed rows views ≡ true
views_are_keyed p rows [] h f = refl
views_are_keyed p rows (v ∷ views) h f =
    let fits = first_of (view_fits p v) (list_all (view_fits p) views) f in
    let rest = rest_of (view_fits p v) (list_all (view_fits p) views) f in
    let one = query_keyed p rows v.select h (first_of (query_fits p v.select) _ fits) in
    let more = views_are_keyed p rows views h rest in
    both_are (are_sources_keyed rows v.select.sources) (are_views_keyed rows views) one more

pub views_keyed : (p : Public) (rows : List Row) → list_all (row_fits p) rows ≡ true → state_fits p ≡ true → are_views_keyed rows p.views ≡ true
views_keyed p rows h f = views_are_keyed p rows p.views h (all_views_fit p f)
