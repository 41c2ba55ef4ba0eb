-- What a COMMIT asks of written rows and of children is just that each row's parents stand after the writes.
use Rattle.std.specs.Prelude.{◌≡◌, ◌&&◌, Bool, true, not, List}
use Rattle.ifdb_row.specs.declared.row.Row.{Row}
use Rattle.ifdb_row.specs.declared.write.Write.{Write}
use Rattle.ifdb_row.specs.Content.{rising, after, are_rooted}
use Rattle.ifdb_row.specs.Writes.{are_rising, are_fitting}
use Rattle.ifdb_row.specs.Verdict.{breaks, leaves}

-- no written row is broken, and no row is left
abbrev pub spares : List Row → List Write → Bool
spares rows ws = not (breaks rows ws) && not (leaves rows ws)

-- over rows whose parents stand
abbrev pub ParentsAreSpared : Type 0
ParentsAreSpared = (rows : List Row) (ws : List Write) → rising rows ≡ true → are_rising ws ≡ true → are_fitting ws ≡ true → are_rooted rows rows ≡ true
    → spares (after rows ws) ws ≡ are_rooted (after rows ws) (after rows ws)
