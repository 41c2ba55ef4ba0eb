-- Rows of one shape in one list of values: they are read back from it.
use Rattle.std.proofs.Common.{◌≡◌, ◌-◌, ◌*◌, ◌≤◌, Bool, true, false, List, [], ◌∷◌, ◌++◌, ◌∙◌, length, map, take, drop, refl, ap, arith}
use Rattle.std.specs.List.{flat_map, list_all}
use Rattle.std.specs.Prelude.{slice_get, ◌==◌, if◌then◌else◌}
use Rattle.std.proofs.lemmas.Bool.Decides.{nat_tests}
use Rattle.std.proofs.lemmas.List.{append_assoc, length-append, drop_at, take_at}
use Rattle.ifdb_value.specs.declared.value.Value.{Value}
use Rattle.ifdb_value.specs.Lists.{listed}
use Rattle.ifdb_row.specs.declared.slot.Slot.{Slot}
use Rattle.ifdb_row.specs.declared.row.Row.{Row}
use Rattle.ifdb_row.specs.Runs.{even_row, even_rows}
use Rattle.ifdb_store.specs.declared.even.Shape.{Shape}
use Rattle.ifdb_store.specs.Shapes.{cells_in, has_shape, head_in, is_unbound, refs_in}

module _ (s : Shape) (keyed : s.key ≤ s.width) where
  -- a row is read back from in front of others
  row_back : (r : Row) (refs : List Slot) (cells : List Value) → has_shape s r ≡ true → refs ≡ r.refs → even_row s.key s.width (head_in r) refs (cells_in r ++ cells) ≡ r
  row_back r refs cells h e =
      let key : length r.slot.key ≡ s.key = grind (arith, nat_tests) in
      let values : length r.values ≡ s.width - s.key = grind (arith, nat_tests) in
      let first : take s.key (cells_in r ++ cells) ≡ r.slot.key = ap (take s.key) (append_assoc r.slot.key r.values cells) ∙ take_at r.slot.key (r.values ++ cells) s.key key in
      let rest : take (s.width - s.key) (drop s.key (cells_in r ++ cells)) ≡ r.values =
      ap (λ xs. take (s.width - s.key) (drop s.key xs)) (append_assoc r.slot.key r.values cells)
      ∙ (ap (take (s.width - s.key)) (drop_at r.slot.key (r.values ++ cells) s.key key) ∙ take_at r.values cells (s.width - s.key) values) in
      λ i. record { slot = record { table = r.slot.table; key = first i; label = r.slot.label }; values = rest i; refs = e i }

  cells_long : (r : Row) → has_shape s r ≡ true → length (cells_in r) ≡ s.width
  cells_long r h =
      let key : length r.slot.key ≡ s.key = grind (arith, nat_tests) in
      let values : length r.values ≡ s.width - s.key = grind (arith, nat_tests) in
      omega (arith, length-append r.slot.key r.values)

  -- so are all of them
  rows_back : (rows : List Row) (refs : List (List Slot)) → list_all (has_shape s) rows ≡ true → refs ≡ map (λ (r : Row). r.refs) rows
      → even_rows s.key s.width (map head_in rows) refs (flat_map cells_in rows) ≡ rows
  rows_back [] refs h e = refl
  rows_back (r ∷ rows) refs h e =
      let one : has_shape s r ≡ true = grind (arith, nat_tests) in
      let all : list_all (has_shape s) rows ≡ true = grind (arith, nat_tests) in
      let first : listed (slice_get refs 0) ≡ r.refs = ap (λ ps. listed (slice_get ps 0)) e in
      let others : drop 1 refs ≡ map (λ (r : Row). r.refs) rows = ap (drop 1) e in
      let cells : drop s.width (cells_in r ++ flat_map cells_in rows) ≡ flat_map cells_in rows = drop_at (cells_in r) (flat_map cells_in rows) s.width (cells_long r one) in
      ap (λ x. x ∷ even_rows s.key s.width (map head_in rows) (drop 1 refs) (drop s.width (cells_in r ++ flat_map cells_in rows))) (row_back r (listed (slice_get refs 0)) (flat_map cells_in rows) one first)
      ∙ (ap (λ cs. r ∷ even_rows s.key s.width (map head_in rows) (drop 1 refs) cs) cells ∙ ap (λ rs. r ∷ rs) (rows_back rows (drop 1 refs) all others))

  -- and where none refers to anything
  unbound_back : (rows : List Row) → list_all (has_shape s) rows ≡ true → list_all is_unbound rows ≡ true → even_rows s.key s.width (map head_in rows) [] (flat_map cells_in rows) ≡ rows
  unbound_back [] h u = refl
  unbound_back (r ∷ rows) h u =
      let one : has_shape s r ≡ true = grind (arith, nat_tests) in
      let all : list_all (has_shape s) rows ≡ true = grind (arith, nat_tests) in
      let free : is_unbound r ≡ true = grind (arith, nat_tests) in
      let rest : list_all is_unbound rows ≡ true = grind (arith, nat_tests) in
      let cells : drop s.width (cells_in r ++ flat_map cells_in rows) ≡ flat_map cells_in rows = drop_at (cells_in r) (flat_map cells_in rows) s.width (cells_long r one) in
      ap (λ x. x ∷ even_rows s.key s.width (map head_in rows) [] (drop s.width (cells_in r ++ flat_map cells_in rows))) (row_back r [] (flat_map cells_in rows) one (nothing r.refs free))
      ∙ (ap (λ cs. r ∷ even_rows s.key s.width (map head_in rows) [] cs) cells ∙ ap (λ rs. r ∷ rs) (unbound_back rows all rest))
    where
      nothing : (refs : List Slot) → (length refs == 0) ≡ true → [] ≡ refs
      nothing [] e = refl
      nothing (x ∷ refs) e = absurd (grind (arith, nat_tests))

  pub shaped_back : (rows : List Row) → list_all (has_shape s) rows ≡ true → even_rows s.key s.width (map head_in rows) (refs_in rows) (flat_map cells_in rows) ≡ rows
  shaped_back rows h = by (list_all is_unbound rows) refl where
    by : (b : Bool) → list_all is_unbound rows ≡ b → even_rows s.key s.width (map head_in rows) (refs_in rows) (flat_map cells_in rows) ≡ rows
    by true e = ap (λ b. even_rows s.key s.width (map head_in rows) (if b then [] else map (λ (r : Row). r.refs) rows) (flat_map cells_in rows)) e ∙ unbound_back rows h e
    by false e = rows_back rows (refs_in rows) h (ap (λ b. if b then [] else map (λ (r : Row). r.refs) rows) e)

  pub cells_many : (rows : List Row) → list_all (has_shape s) rows ≡ true → length (flat_map cells_in rows) ≡ length rows * s.width
  cells_many [] h = omega arith
  cells_many (r ∷ rows) h =
      let one : has_shape s r ≡ true = grind (arith, nat_tests) in
      let all : list_all (has_shape s) rows ≡ true = grind (arith, nat_tests) in
      let more = cells_many rows all in
      let long = cells_long r one in
      let both = length-append (cells_in r) (flat_map cells_in rows) in
      omega (arith, more, long, both)
