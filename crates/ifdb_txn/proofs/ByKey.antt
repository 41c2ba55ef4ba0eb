-- Rows that match, found in the range of keys that the condition gives.
use Rattle.std.proofs.Common.{◌≡◌, ℕ, Bool, true, false, List, [], ◌∷◌, refl, sym, ap, ◌∙◌, arith, None, Option}
use Rattle.std.specs.Prelude.{filter, ◌==◌}
use Rattle.std.proofs.lemmas.Bool.Decides.{nat_tests}
use Rattle.ifdb_value.specs.declared.value.Value.{Value}
use Rattle.ifdb_label.specs.Tags.{MadeTag}
use Rattle.ifdb_row.specs.declared.row.Row.{Row}
use Rattle.ifdb_row.specs.declared.range.KeyRange.{KeyRange}
use Rattle.ifdb_row.specs.Ranges.{is_within, lies_in, rows_within}
use Rattle.ifdb_row.specs.Slots.{is_same_key}
use Rattle.ifdb_row.proofs.SlotOrder.{key_exact}
use Rattle.ifdb_bound.specs.declared.condition.BoundCond.{BoundCond}
use Rattle.ifdb_bound.specs.declared.schema.Schema.{Schema}
use Rattle.ifdb_bound.specs.Conditions.{passes}
use Rattle.ifdb_plan.specs.Keys.{fields}
use Rattle.ifdb_plan.specs.Ranges.{HasRange}
use Rattle.ifdb_model.specs.Writes.{matched, is_matched}
use Rattle.ifdb_catalog.specs.Public.{Public, table_at}
use Rattle.ifdb_txn.specs.Matches.{is_wanted}
use Rattle.ifdb_txn.specs.Keyed.{is_keyed, are_keyed, are_all_keyed}

-- a row of the table that matches has its key in the range that the condition gives
one_in_range : (t : ℕ) (places : List ℕ) (x : KeyRange) (cond : Option BoundCond) (r : Row) → HasRange cond places x → is_keyed t places r ≡ true
    → is_matched t cond r ≡ true → is_within t x None r ≡ true
one_in_range t places x cond r k h m =
    let lies : lies_in x (fields places r.values) ≡ true = k.each r.values (grind (arith, nat_tests)) in
    let same = key_exact r.slot.key (fields places r.values) (grind (arith, nat_tests)) in
    let e : lies_in x r.slot.key ≡ true = ap (lies_in x) same ∙ lies in
    grind (arith, nat_tests)

outside : (t : ℕ) (x : KeyRange) (cond : Option BoundCond) (r : Row) → is_matched t cond r ≡ false → is_within t x None r ≡ true → passes cond (r.values ∷ []) ≡ false
outside t x cond r m h = grind (arith, nat_tests)

-- those of the range are enough
pub matched_in_range : (tags : List MadeTag) (rows : List Row) (t : ℕ) (places : List ℕ) (x : KeyRange) (cond : Option BoundCond) (label : List ℕ)
    → HasRange cond places x → are_keyed t places rows ≡ true
    → filter (is_wanted tags cond label) (rows_within t x None rows) ≡ matched tags rows t cond label
matched_in_range tags [] t places x cond label k h = refl
matched_in_range tags (r ∷ rows) t places x cond label k h =
    by (matched_in_range tags rows t places x cond label k (grind (arith, nat_tests))) (is_matched t cond r) refl where
      by : filter (is_wanted tags cond label) (rows_within t x None rows) ≡ matched tags rows t cond label → (b : Bool) → is_matched t cond r ≡ b
          → filter (is_wanted tags cond label) (rows_within t x None (r ∷ rows)) ≡ matched tags (r ∷ rows) t cond label
      by more true m = let e = one_in_range t places x cond r k (grind (arith, nat_tests)) m in grind (arith, nat_tests, more)
      by more false m = let e = outside t x cond r m in grind (arith, nat_tests, more, e)

-- a table's rows have its key
table_keyed : (p : Public) (t : ℕ) (rows : List Row) → are_all_keyed p rows ≡ true → are_keyed t (table_at p t).key rows ≡ true
table_keyed p t [] h = refl
table_keyed p t (r ∷ rows) h = by (table_keyed p t rows (grind (arith, nat_tests))) (r.slot.table == t) refl where
  by : are_keyed t (table_at p t).key rows ≡ true → (b : Bool) → (r.slot.table == t) ≡ b → are_keyed t (table_at p t).key (r ∷ rows) ≡ true
  by more true e =
      let same : r.slot.table ≡ t = grind (arith, nat_tests) in
      let one : is_same_key r.slot.key (fields (table_at p t).key r.values) ≡ true =
      ap (λ n. is_same_key r.slot.key (fields (table_at p n).key r.values)) (sym same) ∙ grind (arith, nat_tests) in
      grind (arith, nat_tests, more)
  by more false e = grind (arith, nat_tests, more)

pub schema_keyed : (p : Public) (t : ℕ) (schema : Schema) (rows : List Row) → are_all_keyed p rows ≡ true → table_at p t ≡ schema → are_keyed t schema.key rows ≡ true
schema_keyed p t schema rows h e = ap (λ (s : Schema). are_keyed t s.key rows) (sym e) ∙ table_keyed p t rows h
