-- How many columns a name may mean.
use Rattle.std.specs.Prelude.{ℕ, ◌+◌, List, [], ◌∷◌, Option, Some, None, bytes_eq, if◌then◌else◌}
use Rattle.ifdb_bound.specs.declared.expression.BoundColumn.{BoundColumn}
use Rattle.ifdb_select.specs.declared.meaning.Meaning.{Meaning}
use Rattle.ifdb_select.specs.declared.meaning.Meaning.TheVariants as m

-- the columns of a name in a source, of those of these names from place j on
abbrev pub columns_called : List ℕ → ℕ → ℕ → List (List ℕ) → List BoundColumn
columns_called name i j [] = []
columns_called name i j (n ∷ names) =
    if bytes_eq n name then record { source = i; column = j } ∷ columns_called name i (j + 1) names else columns_called name i (j + 1) names

-- what a name may mean where these are the columns that it may
abbrev pub meaning : List BoundColumn → Meaning
meaning [] = m.Nothing
meaning (c ∷ []) = m.One c
meaning (c ∷ d ∷ more) = m.Several

-- what it may mean where there are more
abbrev pub with_more : Meaning → Meaning → Meaning
with_more m.Nothing b = b
with_more (m.One c) m.Nothing = m.One c
with_more (m.One c) _ = m.Several
with_more m.Several b = m.Several

-- the column that it stands for
abbrev pub only : Meaning → Option BoundColumn
only (m.One c) = Some c
only _ = None
