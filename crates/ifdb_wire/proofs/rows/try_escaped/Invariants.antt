use Rattle.std.proofs.Common.{◌≡◌, ◌≤◌, ◌-◌, ◌++◌, length, drop}
use Rattle.ifdb_wire.specs.Text.{escaped}
use Rattle.ifdb_wire.proofs.rows.try_escaped.Given as goal

-- what is left to write
abbrev pub invariant-loop-ahead : goal.invariant-loop-ahead
invariant-loop-ahead l = record {
  text : l.out.text ++ escaped (drop l.from l.text) ≡ l.fn.out.text ++ escaped l.text;
  session : l.out.session ≡ l.fn.out.session;
  within : l.from ≤ length l.text;
}

abbrev pub decreases-loop-ahead : goal.decreases-loop-ahead
decreases-loop-ahead l = length l.text - l.from
