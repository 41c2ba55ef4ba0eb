-- What UPDATE and DELETE are over.
use Rattle.std.specs.Prelude.{ℕ, Bool, ◌&&◌, ◌==◌, List, [], ◌∷◌, Result, map}
use Rattle.std.specs.List.{list_all, list_any}
use Rattle.ifdb_syntax.specs.declared.request.Assignment.{Assignment}
use Rattle.ifdb_bound.specs.declared.request.BoundAssignment.{BoundAssignment}
use Rattle.ifdb_bound.specs.declared.request.Bound.{Bound}
use Rattle.ifdb_wire.specs.declared.fault.Fault.{Fault}
use Rattle.ifdb_catalog.specs.Public.{Public}
use Rattle.ifdb_catalog.specs.Binding.{update}
use Rattle.ifdb_catalog.specs.Scope.{ScopeSource, kinds_in}
use Rattle.ifdb_catalog.specs.Terms.{where_is_known}
use Rattle.ifdb_catalog.specs.Statements.{are_tags, assignment_fits, bound_assignment, is_known_assignment}
use Rattle.ifdb_bind.specs.declared.writes.Changes.{Changes}

-- an assignment names columns of the table alone
abbrev pub is_known_in : ScopeSource → Assignment → Bool
is_known_in target a = is_known_assignment target.columns (target ∷ []) a

-- all assignments do
abbrev pub are_known_in : ScopeSource → List Assignment → Bool
are_known_in target assignments = list_all (is_known_in target) assignments

-- an assignment with places for its columns
abbrev pub assigned : ScopeSource → Assignment → BoundAssignment
assigned target a = bound_assignment target.columns (target ∷ []) a

-- the assignments with places for their columns
abbrev pub all_assigned : ScopeSource → List Assignment → List BoundAssignment
all_assigned target assignments = map (assigned target) assignments

-- the column of the table that is written takes what it is given
abbrev pub takes_what_is_given : ScopeSource → BoundAssignment → Bool
takes_what_is_given target a = assignment_fits target.columns (kinds_in (target ∷ [])) a

-- UPDATE of a table by changes
abbrev pub updated_by : Public → List ℕ → Changes → Result Bound Fault
updated_by p table x = update p table x.assignments.now x.cond.now x.tags.now

-- each name of an UPDATE is known, but for its table's
abbrev pub are_known : Public → ScopeSource → Changes → Bool
are_known p target x =
    list_all (is_known_assignment target.columns (target ∷ [])) x.assignments.now
    && (where_is_known (target ∷ []) x.cond.now && are_tags p x.tags.now)

-- a column of the key is written
abbrev pub is_of_key : List ℕ → BoundAssignment → Bool
is_of_key key a = list_any (λ place. place == a.column) key
