-- INSERT with a list of columns, said of the whole list.
use Rattle.std.specs.Prelude.{ℕ, Bool, ◌&&◌, ◌==◌, ◌≡◌, ◌⊎◌, false, IfErr, List, Result, map, length}
use Rattle.std.specs.List.{list_all}
use Rattle.ifdb_value.specs.declared.value.Value.{Value}
use Rattle.ifdb_value.specs.declared.column.Column.{Column}
use Rattle.ifdb_wire.specs.declared.fault.Fault.{Fault}
use Rattle.ifdb_wire.specs.declared.fault.Fault.TheVariants.{OutOfMemory, TypeMismatch}
use Rattle.ifdb_catalog.specs.Scope.{kinds_of}
use Rattle.ifdb_catalog.specs.Queries.{times}
use Rattle.ifdb_catalog.specs.Statements.{are_given, are_listed, arranged, listed_at, values_at, values_fit, wanted}

-- each column is listed exactly once
abbrev pub each_once : List Column → List (List ℕ) → Bool
each_once columns names = list_all (λ (c : Column). times c.name names == 1) columns

-- where each column is listed
abbrev pub places_in : List (List ℕ) → List Column → List ℕ
places_in names columns = map (λ (c : Column). listed_at names c.name) columns

-- the values fill a row of these columns: each takes its one, and none of the key is NULL
abbrev pub fill : List Column → List ℕ → List Value → Bool
fill columns key values = values_fit (kinds_of columns) values && are_given (values_at values key)

-- a row has as many values as are wanted, and fills one of these columns
abbrev pub row_fills : List Column → List ℕ → List (List ℕ) → List Value → Bool
row_fills columns key names row = (length row == wanted columns names) && fill columns key (arranged columns names row)

-- a row of as many values as are listed fills one of these columns
abbrev pub listed_fills : List Column → List ℕ → List (List ℕ) → List Value → Bool
listed_fills columns key names row =
    (length row == length names) && fill columns key (values_at row (places_in names columns))

-- each column is listed exactly once, and each row fits
abbrev pub all_listed_fit : List Column → List ℕ → List (List ℕ) → List (List Value) → Bool
all_listed_fit columns key names rows = each_once columns names && list_all (listed_fills columns key names) rows

-- each row with the values of the columns, in their order
abbrev pub all_listed : List Column → List (List ℕ) → List (List Value) → List (List Value)
all_listed columns names rows = map (λ row. values_at row (places_in names columns)) rows

-- the rows of an INSERT fit the columns and the key
abbrev pub all_fit : List Column → List ℕ → List (List ℕ) → List (List Value) → Bool
all_fit columns key names rows = are_listed columns names && list_all (row_fills columns key names) rows

-- where a call is refused, memory lacks, or it isn't so that the rows fit
abbrev pub MismatchedUnless : {A : Type 0} → Bool → Result A Fault → Type 0
MismatchedUnless fit result = IfErr result (λ fault. (fault ≡ OutOfMemory) ⊎ ((fault ≡ TypeMismatch) × (fit ≡ false)))
