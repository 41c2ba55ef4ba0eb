-- A reference is resolved exactly where it may mean one column and no other.
use Rattle.std.proofs.Common.{◌≡◌, ◌↔◌, refl, ap, sym, ◌∙◌, subst, ℕ, zero, suc, ◌+◌, ◌<◌, Bool, true, false, ◌&&◌, ◌||◌, ◌==◌, List, [], ◌∷◌, ◌++◌, length, Option, None, Some, cond, arith}
use Rattle.std.specs.Prelude.{not, nat_lt, bytes_eq, slice_index_or}
use Rattle.std.specs.List.{list_all, list_any}
use Rattle.std.proofs.lemmas.Bool.Decides.{nat_tests}
use Rattle.std.proofs.lemmas.Bool.{ltb-true}
use Rattle.std.proofs.lemmas.List.{get_or-map, length-map}
use Rattle.std.proofs.lemmas.Option.{slice_get-get_or}
use Rattle.std.specs.Option.{is_some}
use Rattle.std.specs.Prelude.{slice_get}
use Rattle.ifdb_value.specs.declared.value.ValueKind.{ValueKind}
use Rattle.ifdb_value.specs.declared.value.ValueKind.TheVariants as kind
use Rattle.ifdb_bound.specs.Kinds.{column_kind}
use Rattle.ifdb_value.specs.declared.column.Column.{Column}
use Rattle.ifdb_syntax.specs.declared.expression.ColumnRef.{ColumnRef}
use Rattle.ifdb_bound.specs.declared.expression.BoundColumn.{BoundColumn}
use Rattle.ifdb_catalog.specs.Scope.{ScopeSource, Scope, kinds_of, kinds_in, no_column, no_source, places_named, may_be_of, meant_from, the_one, column_or, resolve, column_at, is_column, may_mean}
use Rattle.ifdb_bound.specs.Forms.{same_column}
use Rattle.ifdb_catalog.specs.Laws.{IsTheOne}

same_column_is : (a b : BoundColumn) → same_column a b ≡ true → a ≡ b
same_column_is a b h =
    let source : a.source ≡ b.source = grind (arith, nat_tests) in
    let column : a.column ≡ b.column = grind (arith, nat_tests) in
    λ i. record { source = source i; column = column i }

same_column_refl : (a : BoundColumn) → same_column a a ≡ true
same_column_refl a = grind (arith, nat_tests)

any-append : {X : Type 0} (f : X → Bool) (xs ys : List X) → list_any f (xs ++ ys) ≡ list_any f xs || list_any f ys
any-append f [] ys = refl
any-append f (x ∷ xs) ys = grind (arith, nat_tests, any-append f xs ys)

-- ---- the columns of one source

-- c is one of the columns of source i from place j on that have the name
abbrev is_named : List ℕ → ℕ → ℕ → List Column → BoundColumn → Bool
is_named name i j [] c = false
is_named name i j (x ∷ columns) c = (((c.source == i) && (c.column == j)) && bytes_eq x.name name) || is_named name i (j + 1) columns c

any_place : (name : List ℕ) (i j : ℕ) (columns : List Column) (c : BoundColumn)
    → list_any (same_column c) (places_named name i j columns) ≡ is_named name i j columns c
any_place name i j [] c = refl
any_place name i j (x ∷ columns) c = by (bytes_eq x.name name) (any_place name i (j + 1) columns c) where
  by : (b : Bool) → list_any (same_column c) (places_named name i (j + 1) columns) ≡ is_named name i (j + 1) columns c
      → list_any (same_column c) (cond b (record { source = i; column = j } ∷ places_named name i (j + 1) columns) (places_named name i (j + 1) columns))
      ≡ (((c.source == i) && (c.column == j)) && b) || is_named name i (j + 1) columns c
  by true h = grind (arith, nat_tests)
  by false h = grind (arith, nat_tests)

-- before place j is none of them
named_behind : (name : List ℕ) (i j : ℕ) (columns : List Column) (c : BoundColumn) → c.column < j → is_named name i j columns c ≡ false
named_behind name i j [] c h = refl
named_behind name i j (x ∷ columns) c h = grind (arith, nat_tests, named_behind name i (j + 1) columns c)

named_at : (name : List ℕ) (i j k : ℕ) (columns : List Column)
    → is_named name i j columns (record { source = i; column = j + k }) ≡ nat_lt k (length columns) && bytes_eq (slice_index_or columns k no_column).name name
named_at name i j k [] = grind (arith, nat_tests)
named_at name i j zero (x ∷ columns) = grind (arith, nat_tests, named_behind name i (j + 1) columns (record { source = i; column = j + 0 }))
named_at name i j (suc k) (x ∷ columns) =
    let same : is_named name i (j + 1) columns (record { source = i; column = j + suc k }) ≡ is_named name i (j + 1) columns (record {
      source =
          i;
      column = (j + 1) + k;
    }) =
    ap (λ (n : ℕ). is_named name i (j + 1) columns (record { source = i; column = n })) (omega arith) in
    grind (arith, nat_tests, named_at name i (j + 1) k columns)

named_elsewhere : (name : List ℕ) (i j : ℕ) (columns : List Column) (c : BoundColumn) → (c.source == i) ≡ false → is_named name i j columns c ≡ false
named_elsewhere name i j [] c h = refl
named_elsewhere name i j (x ∷ columns) c h = grind (arith, nat_tests, named_elsewhere name i (j + 1) columns c)

-- said by the column's place
abbrev stands_at : List ℕ → List Column → ℕ → Bool
stands_at name columns k = nat_lt k (length columns) && bytes_eq (slice_index_or columns k no_column).name name

named_here : (name : List ℕ) (i k : ℕ) (columns : List Column) → is_named name i 0 columns (record { source = i; column = k }) ≡ stands_at name columns k
named_here name i k columns =
    ap (λ (n : ℕ). is_named name i 0 columns (record { source = i; column = n })) (omega arith) ∙ named_at name i 0 k columns

-- ---- the columns of all sources

-- c is one of the columns that r may mean, of the sources from source i on
abbrev is_meant : ColumnRef → ℕ → Scope → BoundColumn → Bool
is_meant r i [] c = false
is_meant r i (s ∷ scope) c = (may_be_of r.source s && is_named r.column i 0 s.columns c) || is_meant r (i + 1) scope c

any_meant : (r : ColumnRef) (i : ℕ) (scope : Scope) (c : BoundColumn) → list_any (same_column c) (meant_from r i scope) ≡ is_meant r i scope c
any_meant r i [] c = refl
any_meant r i (s ∷ scope) c = by (may_be_of r.source s) (any_meant r (i + 1) scope c) where
  by : (b : Bool) → list_any (same_column c) (meant_from r (i + 1) scope) ≡ is_meant r (i + 1) scope c
      → list_any (same_column c) (cond b (places_named r.column i 0 s.columns ++ meant_from r (i + 1) scope) (meant_from r (i + 1) scope))
      ≡ (b && is_named r.column i 0 s.columns c) || is_meant r (i + 1) scope c
  by true h =
      any-append (same_column c) (places_named r.column i 0 s.columns) (meant_from r (i + 1) scope)
      ∙ (λ j. any_place r.column i 0 s.columns c j || h j)
  by false h = h

meant_behind : (r : ColumnRef) (i : ℕ) (scope : Scope) (c : BoundColumn) → c.source < i → is_meant r i scope c ≡ false
meant_behind r i [] c h = refl
meant_behind r i (s ∷ scope) c h = grind (arith, nat_tests, named_elsewhere r.column i 0 s.columns c, meant_behind r (i + 1) scope c)

-- said by the source's place
abbrev is_meant_at : ColumnRef → Scope → ℕ → ℕ → Bool
is_meant_at r scope k n =
    let s : ScopeSource = slice_index_or scope k no_source in
    nat_lt k (length scope) && (may_be_of r.source s && stands_at r.column s.columns n)

meant_at : (r : ColumnRef) (i k n : ℕ) (scope : Scope) → is_meant r i scope (record { source = i + k; column = n }) ≡ is_meant_at r scope k n
meant_at r i k n [] = grind (arith, nat_tests)
meant_at r i zero n (s ∷ scope) =
    let c : BoundColumn = record { source = i + 0; column = n } in
    let here : is_named r.column i 0 s.columns c ≡ stands_at r.column s.columns n =
    ap (λ (m : ℕ). is_named r.column i 0 s.columns (record { source = m; column = n })) (omega arith) ∙ named_here r.column i n s.columns in
    grind (arith, nat_tests, meant_behind r (i + 1) scope c)
meant_at r i (suc k) n (s ∷ scope) =
    let c : BoundColumn = record { source = i + suc k; column = n } in
    let elsewhere : (c.source == i) ≡ false = grind (arith, nat_tests) in
    let not_here : is_named r.column i 0 s.columns c ≡ false = named_elsewhere r.column i 0 s.columns c elsewhere in
    let same : is_meant r (i + 1) scope c ≡ is_meant r (i + 1) scope (record { source = (i + 1) + k; column = n }) =
    ap (λ (m : ℕ). is_meant r (i + 1) scope (record { source = m; column = n })) (omega arith) in
    grind (arith, nat_tests, meant_at r (i + 1) k n scope)

-- the columns that are found are those that the reference may mean
found_are_meant : (scope : Scope) (r : ColumnRef) (c : BoundColumn) → list_any (same_column c) (meant_from r 0 scope) ≡ may_mean scope r c
found_are_meant scope r c =
    any_meant r 0 scope c
    ∙ ap (λ (m : ℕ). is_meant r 0 scope (record { source = m; column = c.column })) (omega arith)
    ∙ meant_at r 0 c.source c.column scope

-- ---- each is found once

abbrev are_apart : List BoundColumn → Bool
are_apart [] = true
are_apart (c ∷ columns) = not (list_any (same_column c) columns) && are_apart columns

apart-append : (xs ys : List BoundColumn) → are_apart xs ≡ true → are_apart ys ≡ true → list_all (λ x. not (list_any (same_column x) ys)) xs ≡ true
    → are_apart (xs ++ ys) ≡ true
apart-append [] ys h k l = k
apart-append (x ∷ xs) ys h k l = grind (arith, nat_tests, apart-append xs ys, any-append (same_column x) xs ys)

places_are_apart : (name : List ℕ) (i j : ℕ) (columns : List Column) → are_apart (places_named name i j columns) ≡ true
places_are_apart name i j [] = refl
places_are_apart name i j (x ∷ columns) = by (bytes_eq x.name name) (places_are_apart name i (j + 1) columns) where
  none : list_any (same_column (record { source = i; column = j })) (places_named name i (j + 1) columns) ≡ false
  none = any_place name i (j + 1) columns (record { source = i; column = j })
      ∙ named_behind name i (j + 1) columns (record { source = i; column = j }) (omega arith)

  by : (b : Bool) → are_apart (places_named name i (j + 1) columns) ≡ true
      → are_apart (cond b (record { source = i; column = j } ∷ places_named name i (j + 1) columns) (places_named name i (j + 1) columns)) ≡ true
  by true h = grind (arith, nat_tests, none)
  by false h = h

-- those of one source are none of the next sources
places_go_before : (r : ColumnRef) (i j : ℕ) (columns : List Column) (scope : Scope)
    → list_all (λ x. not (list_any (same_column x) (meant_from r (i + 1) scope))) (places_named r.column i j columns) ≡ true
places_go_before r i j [] scope = refl
places_go_before r i j (x ∷ columns) scope = by (bytes_eq x.name r.column) (places_go_before r i (j + 1) columns scope) where
  c : BoundColumn
  c = record { source = i; column = j }

  none : list_any (same_column (record { source = i; column = j })) (meant_from r (i + 1) scope) ≡ false
  none = any_meant r (i + 1) scope (record { source = i; column = j }) ∙ meant_behind r (i + 1) scope (record { source = i; column = j }) (omega arith)

  by : (b : Bool) → list_all (λ x. not (list_any (same_column x) (meant_from r (i + 1) scope))) (places_named r.column i (j + 1) columns) ≡ true
      → list_all (λ x. not (list_any (same_column x) (meant_from r (i + 1) scope)))
      (cond b (record { source = i; column = j } ∷ places_named r.column i (j + 1) columns) (places_named r.column i (j + 1) columns)) ≡ true
  by true h = grind (arith, nat_tests, none)
  by false h = h

meant_are_apart : (r : ColumnRef) (i : ℕ) (scope : Scope) → are_apart (meant_from r i scope) ≡ true
meant_are_apart r i [] = refl
meant_are_apart r i (s ∷ scope) = by (may_be_of r.source s) (meant_are_apart r (i + 1) scope) where
  by : (b : Bool) → are_apart (meant_from r (i + 1) scope) ≡ true
      → are_apart (cond b (places_named r.column i 0 s.columns ++ meant_from r (i + 1) scope) (meant_from r (i + 1) scope)) ≡ true
  by true h =
      apart-append (places_named r.column i 0 s.columns) (meant_from r (i + 1) scope) (places_are_apart r.column i 0 s.columns) h
      (places_go_before r i 0 s.columns scope)
  by false h = h

-- ---- the one that is found

module _ (scope : Scope) (r : ColumnRef) (c : BoundColumn) where
  abbrev Finds : List BoundColumn → Type 0
  Finds found = (d : BoundColumn) → list_any (same_column d) found ≡ may_mean scope r d

  is_the_one : (found : List BoundColumn) → Finds found → the_one found ≡ Some c → IsTheOne scope r c
  is_the_one [] all h = grind (arith)
  is_the_one (x ∷ []) all h =
      let same : x ≡ c = ap (column_or c) h in
      let there : list_any (same_column c) (x ∷ []) ≡ true = subst (λ (d : BoundColumn). list_any (same_column c) (d ∷ []) ≡ true) (sym same) (refl_there c) in
      record { meant = sym (all c) ∙ there; alone = λ d k. same_column_is d x (is_first d x (all d ∙ k)) ∙ same } where
        refl_there : (d : BoundColumn) → list_any (same_column d) (d ∷ []) ≡ true
        refl_there d = grind (arith, nat_tests, same_column_refl d)

        is_first : (d e : BoundColumn) → list_any (same_column d) (e ∷ []) ≡ true → same_column d e ≡ true
        is_first d e k = grind (arith, nat_tests)
  is_the_one (x ∷ y ∷ more) all h = grind (arith)

  is_found : (found : List BoundColumn) → Finds found → are_apart found ≡ true → IsTheOne scope r c → the_one found ≡ Some c
  is_found [] all apart one = absurd_test (all c ∙ one.meant) where
    absurd_test : false ≡ true → the_one {A = BoundColumn} [] ≡ Some c
    absurd_test k = grind (arith)
  is_found (x ∷ []) all apart one = ap Some (sym (same_column_is c x (is_first (all c ∙ one.meant)))) where
    is_first : list_any (same_column c) (x ∷ []) ≡ true → same_column c x ≡ true
    is_first k = grind (arith, nat_tests)
  is_found (x ∷ y ∷ more) all apart one = differ (one.alone x (sym (all x) ∙ first) ∙ sym (one.alone y (sym (all y) ∙ second))) apart where
    first : list_any (same_column x) (x ∷ y ∷ more) ≡ true
    first = grind (arith, nat_tests, same_column_refl x)

    second : list_any (same_column y) (x ∷ y ∷ more) ≡ true
    second = grind (arith, nat_tests, same_column_refl y)

    differ : x ≡ y → are_apart (x ∷ y ∷ more) ≡ true → the_one (x ∷ y ∷ more) ≡ Some c
    differ same k =
        let one_column : same_column x y ≡ true = subst (λ (z : BoundColumn). same_column x z ≡ true) same (same_column_refl x) in
        grind (arith, nat_tests)

pub resolves_the_one : (scope : Scope) (r : ColumnRef) (c : BoundColumn) → (resolve scope r ≡ Some c) ↔ IsTheOne scope r c
resolves_the_one scope r c = (
  is_the_one scope r c (meant_from r 0 scope) (found_are_meant scope r),
  is_found scope r c (meant_from r 0 scope) (found_are_meant scope r) (meant_are_apart r 0 scope),
)

-- ---- a column that is resolved is there

get_stands : {X : Type 0} (xs : List X) (n : ℕ) (d : X) → nat_lt n (length xs) ≡ true → is_some (slice_get xs n) ≡ true
get_stands xs n d h = ap is_some (slice_get-get_or xs n d (ltb-true n (length xs) h))

meant_stands : (scope : Scope) (r : ColumnRef) (c : BoundColumn) → may_mean scope r c ≡ true → is_some (column_kind (kinds_in scope) c) ≡ true
meant_stands scope r c h =
    let s : ScopeSource = slice_index_or scope c.source no_source in
    let there : nat_lt c.source (length scope) ≡ true = grind (arith, nat_tests) in
    let within : nat_lt c.column (length s.columns) ≡ true = grind (arith, nat_tests) in
    let kinds : slice_index_or (kinds_in scope) c.source [] ≡ kinds_of s.columns =
    get_or-map (λ (x : ScopeSource). kinds_of x.columns) scope c.source no_source [] (ltb-true c.source (length scope) there) in
    let many : length (kinds_of s.columns) ≡ length s.columns = length-map s.columns (λ (x : Column). x.kind) in
    subst (λ (k : List ValueKind). is_some (slice_get k c.column) ≡ true) (sym kinds)
    (get_stands (kinds_of s.columns) c.column kind.Int (subst (λ (n : ℕ). nat_lt c.column n ≡ true) (sym many) within))

pub known_stands : (scope : Scope) (r : ColumnRef) → is_column scope r ≡ true → is_some (column_kind (kinds_in scope) (column_at scope r)) ≡ true
known_stands scope r h = by (resolve scope r) h (λ c e. meant_stands scope r c ((resolves_the_one scope r c).0 e).meant) where
  by : (o : Option BoundColumn) → is_some o ≡ true → ((c : BoundColumn) → o ≡ Some c → is_some (column_kind (kinds_in scope) c) ≡ true)
      → is_some (column_kind (kinds_in scope) (column_or (record { source = 0; column = 0 }) o)) ≡ true
  by None k f = grind (arith)
  by (Some c) k f = f c refl
