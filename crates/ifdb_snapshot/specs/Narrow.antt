-- SELECTs over four sources at most.
use Rattle.std.specs.Prelude.{Bool, true, length, nat_le}
use Rattle.ifdb_syntax.specs.declared.request.Request.{Request}
use Rattle.ifdb_syntax.specs.declared.request.Request.TheVariants as q
use Rattle.ifdb_bound.specs.declared.request.Bound.{Bound}
use Rattle.ifdb_bound.specs.declared.request.Bound.TheVariants as b
use Rattle.ifdb_bound.specs.declared.request.Change.{Change}
use Rattle.ifdb_bound.specs.declared.request.Change.TheVariants as change

-- a SELECT, that of a view too, is over four sources at most
abbrev pub is_narrow : Request → Bool
is_narrow (q.Select s) = nat_le (length s.sources) 4
is_narrow (q.CreateView name s tags) = nat_le (length s.sources) 4
is_narrow _ = true

-- so is a view that is to be made
abbrev pub is_narrow_change : Change → Bool
is_narrow_change (change.View v) = nat_le (length v.select.sources) 4
is_narrow_change _ = true

-- so is what is bound
abbrev pub is_narrow_bound : Bound → Bool
is_narrow_bound (b.Select s) = nat_le (length s.sources) 4
is_narrow_bound (b.Change c) = is_narrow_change c
is_narrow_bound _ = true
