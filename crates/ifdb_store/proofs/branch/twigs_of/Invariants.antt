use Rattle.std.proofs.Common.{◌≡◌, true, take}
use Rattle.std.specs.List.{list_all}
use Rattle.ifdb_store.specs.Pages.{branch_rows, is_twig, limb_rows}
use Rattle.ifdb_store.proofs.branch.twigs_of.Given as goal

abbrev pub invariant-loop-branch : goal.invariant-loop-branch
invariant-loop-branch l = record {
  rows : branch_rows l.twigs.items ≡ limb_rows (take l.branch-index l.branches);
  good : list_all is_twig l.twigs.items ≡ true;
}
