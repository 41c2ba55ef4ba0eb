-- What a name may mean among columns that stand behind one another.
use Rattle.std.proofs.Common.{◌≡◌, refl, ap, ℕ, ◌+◌, List, [], ◌∷◌, ◌++◌, map, cond}
use Rattle.std.specs.Prelude.{bytes_eq}
use Rattle.ifdb_value.specs.declared.column.Column.{Column}
use Rattle.ifdb_bound.specs.declared.expression.BoundColumn.{BoundColumn}
use Rattle.ifdb_catalog.specs.Scope.{places_named, the_one}
use Rattle.ifdb_select.specs.Meaning.{columns_called, meaning, only, with_more}
use Rattle.ifdb_select.specs.declared.meaning.Meaning.TheVariants as m

pub meaning_behind : (c : BoundColumn) (more : List BoundColumn) → meaning (c ∷ more) ≡ with_more (m.One c) (meaning more)
meaning_behind c [] = refl
meaning_behind c (d ∷ []) = refl
meaning_behind c (d ∷ e ∷ more) = refl

pub meaning_append : (xs ys : List BoundColumn) → meaning (xs ++ ys) ≡ with_more (meaning xs) (meaning ys)
meaning_append [] ys = refl
meaning_append (x ∷ []) ys = meaning_behind x ys
meaning_append (x ∷ y ∷ xs) ys = refl

pub only_the_one : (xs : List BoundColumn) → only (meaning xs) ≡ the_one xs
only_the_one [] = refl
only_the_one (x ∷ []) = refl
only_the_one (x ∷ y ∷ xs) = refl

-- the columns of a name, by the names alone
pub places_by_names : (name : List ℕ) (i j : ℕ) (columns : List Column)
    → places_named name i j columns ≡ columns_called name i j (map (λ (c : Column). c.name) columns)
places_by_names name i j [] = refl
places_by_names name i j (c ∷ columns) =
    ap (λ (l : List BoundColumn). cond (bytes_eq c.name name) (record { source = i; column = j } ∷ l) l) (places_by_names name i (j + 1) columns)
