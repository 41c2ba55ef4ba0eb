use Rattle.std.proofs.Common.{List, sym, subst}
use Rattle.ifdb_authority.specs.declared.holding.Holding.{Holding}
use Rattle.ifdb_authority.specs.Grantors.{is_same_holding}
use Rattle.ifdb_authority.specs.Search.{IsExtended}
use Rattle.ifdb_authority.proofs.SearchLemmas.{extended-insert}
use Rattle.ifdb_authority.proofs.search.add.Goals as goal

pub returns : goal.returns
returns c =
    let P : List Holding → Type 0 = λ new. IsExtended c.args.found.now.keys new (is_same_holding c.args.holding) in
    subst P (sym c.in_ok-insert.ensures.keys) (extended-insert c.args.found.now.keys c.args.holding)
