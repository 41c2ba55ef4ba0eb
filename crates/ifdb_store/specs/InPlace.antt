-- Rows that are changed in place.
use Rattle.std.specs.Prelude.{◌≡◌, ◌<◌, Bool, List, length, if◌then◌else◌}
use Rattle.ifdb_row.specs.declared.row.Row.{Row}
use Rattle.ifdb_row.specs.declared.write.Write.{Write}
use Rattle.ifdb_row.specs.Content.{after, place}
use Rattle.ifdb_store.specs.Pages.{front}

-- the rows are those after writes, if they were put in, and otherwise as before; the first one's slot stays
pub record IsPut (old new : List Row) (ws : List Write) (done : Bool) : Type 0 where
  pub rows : new ≡ (if done then after old ws else old)
  pub first : front new ≡ front old

-- the same of one write and the rows of a page
pub record IsPlaced (old new : List Row) (w : Write) (done : Bool) : Type 0 where
  pub rows : new ≡ (if done then place w.slot w.row old else old)
  pub first : front new ≡ front old
  pub some : 0 < length old → 0 < length new
  pub few : length old < 65 → length new < 65
