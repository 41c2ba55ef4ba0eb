use Rattle.std.proofs.Common.{◌≡◌, true, take}
use Rattle.std.specs.List.{list_all}
use Rattle.ifdb_store.specs.Pages.{is_branch, limb_rows, rows_of}
use Rattle.ifdb_store.proofs.limb.branches_of.Given as goal

abbrev pub invariant-loop-limb : goal.invariant-loop-limb
invariant-loop-limb l = record {
  rows : limb_rows l.branches.items ≡ rows_of (take l.limb-index l.limbs);
  good : list_all is_branch l.branches.items ≡ true;
}
