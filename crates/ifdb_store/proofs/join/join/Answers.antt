use Rattle.std.proofs.Common.{◌≡◌, false, rules}
use Rattle.std.specs.List.{list_any}
use Rattle.ifdb_store.specs.Pages.{is_small}
use Rattle.ifdb_store.proofs.Joining.{none_small}
use Rattle.ifdb_store.proofs.join.join.Goals as goal

pub returns-else-is_some_small-clause-joined : goal.returns-else-is_some_small-clause-joined
returns-else-is_some_small-clause-joined c =
    let none : list_any is_small c.args.pages.now.items ≡ false = search rules in
    none_small c.args.pages.now.items none
