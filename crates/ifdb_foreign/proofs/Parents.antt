-- The first row that may serve is the parent.
use Rattle.std.proofs.Common.{◌≡◌, ℕ, List, [], ◌∷◌, refl, arith, ◌&&◌, Bool}
use Rattle.std.specs.Prelude.{find, filter, option_map}
use Rattle.std.proofs.lemmas.Bool.Decides.{nat_tests}
use Rattle.ifdb_value.specs.declared.value.Value.{Value}
use Rattle.ifdb_label.specs.Tags.{MadeTag}
use Rattle.ifdb_row.specs.declared.row.Row.{Row}
use Rattle.ifdb_row.specs.Slots.{is_of_key}
use Rattle.ifdb_row.specs.Seen.{candidate, parent_of, first_slot}

first_found : (p : Row → Bool) (rows : List Row) → first_slot (filter p rows) ≡ option_map (λ (r : Row). r.slot) (find p rows)
first_found p [] = refl
first_found p (r ∷ rows) = grind (arith, nat_tests, first_found p rows)

pub parent_found : (tags : List MadeTag) (rows : List Row) (t : ℕ) (key : List Value) (child given : List ℕ)
    → parent_of tags rows t key child given ≡ option_map (λ (r : Row). r.slot) (find (λ (r : Row). is_of_key t key r.slot && candidate tags r.slot.label child given) rows)
parent_found tags rows t key child given = first_found (λ (r : Row). is_of_key t key r.slot && candidate tags r.slot.label child given) rows
