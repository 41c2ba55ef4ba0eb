use Rattle.std.proofs.Common.{◌≡◌, drop}
use Rattle.ifdb_closure.specs.Closures.{closure_named}
use Rattle.ifdb_closure.proofs.closure.closure_named.Given as goal

-- the closures so far have other names
abbrev pub invariant-loop-closure : goal.invariant-loop-closure
invariant-loop-closure l = closure_named l.closures l.name ≡ closure_named (drop l.closure-index l.closures) l.name
