use Rattle.std.proofs.Common.{◌≡◌, true, take}
use Rattle.std.specs.List.{list_all}
use Rattle.ifdb_store.specs.Pages.{branch_rows, flat, is_page}
use Rattle.ifdb_store.proofs.twig.pages_of.Given as goal

abbrev pub invariant-loop-twig : goal.invariant-loop-twig
invariant-loop-twig l = record {
  rows : flat l.pages.items ≡ branch_rows (take l.twig-index l.twigs);
  good : list_all is_page l.pages.items ≡ true;
}
