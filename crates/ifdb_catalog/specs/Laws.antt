-- What the laws say.
use Rattle.std.specs.Prelude.{◌≡◌, ◌↔◌, ℕ, true, List, fold, Ok, Some}
use Rattle.std.specs.Option.{is_some}
use Rattle.ifdb_label.specs.Tags.{AreWellFormed}
use Rattle.ifdb_syntax.specs.declared.request.Request.{Request}
use Rattle.ifdb_bound.specs.declared.request.Bound.{Bound}
use Rattle.ifdb_bound.specs.declared.request.Bound.TheVariants as b
use Rattle.ifdb_bound.specs.declared.request.Change.{Change}
use Rattle.ifdb_catalog.specs.Public.{Public, opening, tags_of, changed}
use Rattle.ifdb_syntax.specs.declared.expression.ColumnRef.{ColumnRef}
use Rattle.ifdb_bound.specs.Kinds.{column_kind}
use Rattle.ifdb_bound.specs.declared.expression.BoundColumn.{BoundColumn}
use Rattle.ifdb_catalog.specs.Scope.{Scope, kinds_in, may_mean, resolve, column_at, is_column}
use Rattle.ifdb_catalog.specs.Binding.{bound}
use Rattle.ifdb_catalog.specs.Fits.{bound_fits, change_fits, is_new, state_fits}

-- what is bound fits the public state that it is bound in
abbrev pub BoundFits : Type 0
BoundFits = (p : Public) (asker : ℕ) (request : Request) (x : Bound) → bound p asker request ≡ Ok x → bound_fits p x ≡ true

-- what a bound change makes has a name that stands for nothing yet
abbrev pub BoundIsNew : Type 0
BoundIsNew = (p : Public) (asker : ℕ) (request : Request) (c : Change) → bound p asker request ≡ Ok (b.Change c) → is_new p c ≡ true

-- the public state after some changes
abbrev pub after : Public → List Change → Public
after p changes = fold changed p changes

-- what fits a state that fits stays fitting, whatever changes come: nothing that is made is taken away or made anew
abbrev pub BoundStaysFitting : Type 0
BoundStaysFitting = (p : Public) (changes : List Change) (x : Bound) → state_fits p ≡ true → bound_fits p x ≡ true → bound_fits (after p changes) x ≡ true

-- a change that fits leaves each tag's parents older than the tag
abbrev pub TagsStayWellFormed : Type 0
TagsStayWellFormed = (p : Public) (c : Change) → AreWellFormed (tags_of p) → change_fits p c ≡ true → AreWellFormed (tags_of (changed p c))

-- the opening fits, and a change that fits leaves a state that fits fitting
pub record StatesStayFitting : Type 0 where
  pub first : state_fits opening ≡ true
  pub next : (p : Public) (c : Change) → state_fits p ≡ true → change_fits p c ≡ true → state_fits (changed p c) ≡ true

-- the column is one that the reference may mean, and the only one
pub record IsTheOne (scope : Scope) (r : ColumnRef) (c : BoundColumn) : Type 0 where
  pub meant : may_mean scope r c ≡ true
  pub alone : (d : BoundColumn) → may_mean scope r d ≡ true → d ≡ c

-- a reference is resolved exactly where it may mean one column and no other
abbrev pub ResolvesTheOne : Type 0
ResolvesTheOne = (scope : Scope) (r : ColumnRef) (c : BoundColumn) → (resolve scope r ≡ Some c) ↔ IsTheOne scope r c

-- where a column's name is resolved, the column is there
abbrev pub KnownColumnsStand : Type 0
KnownColumnsStand = (scope : Scope) (r : ColumnRef) → is_column scope r ≡ true → is_some (column_kind (kinds_in scope) (column_at scope r)) ≡ true
