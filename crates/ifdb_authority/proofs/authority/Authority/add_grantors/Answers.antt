use Rattle.std.proofs.Common.{subst}
use Rattle.ifdb_authority.specs.Authority.{Delegation}
use Rattle.ifdb_authority.specs.Search.{IsExtended, is_grantor}
use Rattle.ifdb_authority.proofs.SearchLemmas.{extended-same, grantors-all}
use Rattle.ifdb_authority.proofs.authority.Authority.add_grantors.Goals as goal

pub returns : goal.returns
returns c =
    let P : Delegation → Type 0 = λ a. IsExtended c.args.found.now.keys c.loop-from.found.keys (is_grantor a c.args.to.now) in
    subst P c.self.view_is
    (extended-same c.args.found.now.keys c.loop-from.found.keys _ _ c.loop-from.invariant
    (grantors-all (record { owners = c.self.inside.owners.items; grants = c.self.inside.grants.keys }) c.self.inside.grantors c.args.to.now c.of-from-items.result.now c.loop-from.from-index
    c.self.invariant c.of-from-items.ensures c.loop-from-test.false))
