-- Keys by their first values.
use Rattle.std.specs.Prelude.{List, [], ◌∷◌}
use Rattle.std.specs.Ordering.{ordering_then}
use Rattle.std.specs.declared.cmp.Ordering.{Ordering}
use Rattle.std.specs.declared.cmp.Ordering.TheVariants.{Less, Equal}
use Rattle.ifdb_value.specs.declared.value.Value.{Value}
use Rattle.ifdb_value.specs.Value.{value_cmp}

-- the order of a key's first values and as many others; a key that has fewer stands before them
abbrev pub front_cmp : List Value → List Value → Ordering
front_cmp key [] = Equal
front_cmp [] (v ∷ values) = Less
front_cmp (k ∷ key) (v ∷ values) = ordering_then (value_cmp k v) (front_cmp key values)
