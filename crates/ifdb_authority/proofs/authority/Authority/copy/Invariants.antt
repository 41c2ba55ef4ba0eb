use Rattle.std.proofs.Common.{◌≡◌, take}
use Rattle.ifdb_authority.proofs.authority.Authority.copy.Given as goal

-- all owners, and the grants so far
abbrev pub invariant-loop-grant : goal.invariant-loop-grant
invariant-loop-grant l = record {
  owners : l.copy.owners ≡ l.self.owners;
  grants : l.copy.grants ≡ take l.grant-index l.self.grants;
}
