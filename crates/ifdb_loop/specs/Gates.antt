-- What a gate says and keeps.
use Rattle.std.specs.Prelude.{Bool, true, false}
use Rattle.ifdb_loop.specs.declared.gate.Arrivals.{Arrivals}
use Rattle.ifdb_loop.specs.declared.gate.Arrivals.TheVariants as arrivals

-- no connection comes any more
abbrev pub has_ended : Arrivals → Bool
has_ended arrivals.MayCome = false
has_ended arrivals.Ended = true
