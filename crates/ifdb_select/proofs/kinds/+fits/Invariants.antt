use Rattle.std.proofs.Common.{◌≡◌, take, true}
use Rattle.std.specs.List.{list_all}
use Rattle.ifdb_bound.specs.Kinds.{cond_fits}
use Rattle.ifdb_catalog.specs.Scope.{kinds_in}
use Rattle.ifdb_select.proofs.kinds.+fits.Given as goal

-- the members so far fit
abbrev pub invariant-all_fit-loop-member : goal.invariant-all_fit-loop-member
invariant-all_fit-loop-member l = list_all (cond_fits (kinds_in l.scope)) (take l.member-index l.member-items) ≡ true
