-- What is bound, as a change of the public state.
use Rattle.std.specs.Prelude.{Bool, true, Option, Some, None}
use Rattle.ifdb_bound.specs.declared.request.Bound.{Bound}
use Rattle.ifdb_bound.specs.declared.request.Bound.TheVariants as b
use Rattle.ifdb_wire.specs.declared.fault.Fault.{Fault}
use Rattle.ifdb_catalog.specs.Public.{Public, refusal}
use Rattle.ifdb_catalog.specs.Fits.{is_new}
use Rattle.ifdb_model.specs.Log.{Entry, changes}

-- the entry that it makes, if it is a change
abbrev pub entry_of : Bound → Option Entry
entry_of (b.Change c) = Some (changes c)
entry_of _ = None

-- the refusal of the change
abbrev pub refusal_of : Public → Bound → Option Fault
refusal_of p (b.Change c) = refusal p c
refusal_of p _ = None

-- what the change makes has a name that stands for nothing yet
abbrev pub is_new_bound : Public → Bound → Bool
is_new_bound p (b.Change c) = is_new p c
is_new_bound p _ = true
