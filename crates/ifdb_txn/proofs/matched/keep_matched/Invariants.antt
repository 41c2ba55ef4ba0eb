use Rattle.std.proofs.Common.{◌≡◌, ◌++◌, take}
use Rattle.std.specs.Prelude.{filter, map}
use Rattle.ifdb_row.specs.ByReference.{row_of}
use Rattle.ifdb_row.specs.Runs.{rows_in}
use Rattle.ifdb_txn.specs.Matches.{is_wanted}
use Rattle.ifdb_txn.proofs.matched.keep_matched.Given as goal

-- those of before, and the wanted ones so far
abbrev pub invariant-loop-place : goal.invariant-loop-place
invariant-loop-place l = map row_of l.found.items ≡ map row_of l.initial.found.items ++ filter (is_wanted l.from.tags.now l.cond l.from.label.now) (take l.place (rows_in l.run))
