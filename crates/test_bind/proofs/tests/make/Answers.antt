use Rattle.std.proofs.Common.{◌≡◌, ℕ, true, Ok, rules}
use Rattle.ifdb_bound.specs.declared.request.Bound.TheVariants as b
use Rattle.ifdb_bound.specs.declared.request.Change.{Change}
use Rattle.ifdb_syntax.specs.declared.request.Request.{Request}
use Rattle.ifdb_catalog.specs.Public.{Public}
use Rattle.ifdb_catalog.specs.Binding.{bound}
use Rattle.ifdb_catalog.specs.Fits.{change_fits}
use Rattle.ifdb_catalog.proofs.BoundRequestsFit.{bound_is_fitting}
use Rattle.test_bind.proofs.tests.make.Goals as goal

-- a bound change fits
change_is_fitting : (p : Public) (asker : ℕ) (r : Request) (change : Change) → bound p asker r ≡ Ok (b.Change change) → change_fits p change ≡ true
change_is_fitting p asker r change e = bound_is_fitting p asker r (b.Change change) e

pub apply-requires-clause-fits : goal.apply-requires-clause-fits
apply-requires-clause-fits c = search (rules, change_is_fitting)
