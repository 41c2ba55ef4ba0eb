use Rattle.std.proofs.Common.{◌≡◌, take, map, true}
use Rattle.std.specs.List.{list_all}
use Rattle.ifdb_catalog.specs.Terms.{bound_cond, is_known_cond}
use Rattle.ifdb_select.proofs.terms.+binds.Given as goal

-- the members so far are known, and have their trees
abbrev pub invariant-bound_members-loop-member : goal.invariant-bound_members-loop-member
invariant-bound_members-loop-member l = record {
  known : list_all (is_known_cond l.scope) (take l.member-index l.member-items) ≡ true;
  trees : l.trees ≡ map (bound_cond l.scope) (take l.member-index l.member-items);
}
