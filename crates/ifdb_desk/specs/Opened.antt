-- The sessions that turns at some places opened.
use Rattle.std.specs.Prelude.{ℕ, ◌+◌, nat_lt, List, [], ◌∷◌, ◌++◌, if◌then◌else◌}
use Rattle.ifdb_turn.specs.Places.{times}
use Rattle.ifdb_history.specs.declared.entry.Entry.{Entry}
use Rattle.ifdb_history.specs.History.{roots_from}

-- of sessions that were opened at these places, with the numbers from n on, the numbers of those whose place is an own one
abbrev pub opened_from : ℕ → List ℕ → List ℕ → List ℕ
opened_from n [] own = []
opened_from n (place ∷ roots) own = (if nat_lt 0 (times place own) then n ∷ [] else []) ++ opened_from (n + 1) roots own

-- the numbers of the sessions that were opened at own places of a history, in order
abbrev pub opened_in : List Entry → List ℕ → List ℕ
opened_in h own = opened_from 1 (roots_from 0 h) own
