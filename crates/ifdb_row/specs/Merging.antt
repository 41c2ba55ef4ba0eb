-- Writes and later ones, merged from the front.
use Rattle.std.specs.Prelude.{◌≡◌, ◌≤◌, ◌+◌, List, [], ◌++◌, length, take, drop, vec_len, vec_capacity, ℕ, Option, Some, None, option_to_list, IsTrue}
use Rattle.std.specs.Global.{Vec}
use Rattle.std.specs.declared.cmp.Ordering.{Ordering}
use Rattle.std.specs.declared.cmp.Ordering.TheVariants as order
use Rattle.ifdb_row.specs.declared.write.Write.{Write}
use Rattle.ifdb_row.specs.Slots.{slot_cmp}
use Rattle.ifdb_row.specs.Writes.{are_rising, merged}

-- later writes are merged behind so many of the own
abbrev pub merged_behind : ℕ → List Write → List Write → List Write
merged_behind n own later = take n own ++ merged (drop n own) later

-- which of two writes stands first; none stands last
abbrev pub fronts_cmp : Option Write → Option Write → Ordering
fronts_cmp None None = order.Equal
fronts_cmp None (Some w) = order.Greater
fronts_cmp (Some v) None = order.Less
fronts_cmp (Some v) (Some w) = slot_cmp v.slot w.slot

-- the first of the merged writes is taken, if there is one, and these are left
pub record IsFirstTaken (own later : List Write) (first : Option Write) (own_left later_left : List Write) : Type 0 where
  pub split : merged own later ≡ option_to_list first ++ merged own_left later_left
  pub ends : first ≡ None → merged own later ≡ []
  pub rising : IsTrue (are_rising own_left)
  pub later_rising : IsTrue (are_rising later_left)
  pub fewer : length (option_to_list first) + length own_left + length later_left ≤ length own + length later

-- there is room for so many items more
abbrev pub HasRoomFor : ℕ → Vec Write → Type 0
HasRoomFor n items = vec_len items + n ≤ vec_capacity items
