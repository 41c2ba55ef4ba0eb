use Rattle.std.proofs.Common.{◌≡◌, true, take}
use Rattle.std.specs.List.{list_all}
use Rattle.ifdb_store.specs.Pages.{are_joined, flat, is_page}
use Rattle.ifdb_store.proofs.join.all_joined.Given as goal

abbrev pub invariant-loop-page : goal.invariant-loop-page
invariant-loop-page l = record {
  rows : flat l.all.items ≡ flat (take l.page-index l.pages);
  good : list_all is_page l.all.items ≡ true;
  joined : are_joined l.all.items ≡ true;
}
