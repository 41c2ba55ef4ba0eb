-- The rows that UPDATE and DELETE are about.
use Rattle.std.specs.Prelude.{ℕ, Bool, List, [], ◌∷◌, ◌&&◌, filter, Option}
use Rattle.ifdb_label.specs.Tags.{MadeTag}
use Rattle.ifdb_label.specs.Label.{flows}
use Rattle.ifdb_row.specs.declared.row.Row.{Row}
use Rattle.ifdb_bound.specs.declared.condition.BoundCond.{BoundCond}
use Rattle.ifdb_bound.specs.Conditions.{passes}
use Rattle.ifdb_foreign.specs.declared.standpoint.Standpoint.{Standpoint}

-- the label sees the row, and the condition holds
abbrev pub is_wanted : List MadeTag → Option BoundCond → List ℕ → Row → Bool
is_wanted tags cond label r = flows tags r.slot.label label && passes cond (r.values ∷ [])

-- those of some rows that the label sees and of which the condition holds
abbrev pub wanted_of : Standpoint → Option BoundCond → List Row → List Row
wanted_of from cond rows = filter (is_wanted from.tags.now cond from.label.now) rows
