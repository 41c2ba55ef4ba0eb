-- As many places in one list of columns as in another.
use Rattle.std.proofs.Common.{◌≡◌, refl, ℕ, List, [], ◌∷◌, length, arith}
use Rattle.std.specs.Prelude.{◌==◌}
use Rattle.std.proofs.lemmas.Bool.Decides.{nat_tests}
use Rattle.ifdb_value.specs.declared.column.Column.{Column}
use Rattle.ifdb_catalog.specs.Definitions.{same_kinds}

pub no_places : (columns others : List Column) (places : List ℕ) → same_kinds columns [] others places ≡ (length places == 0)
no_places columns others [] = refl
no_places columns others (p ∷ places) = grind (arith, nat_tests)
