use Rattle.std.proofs.Common.{rules}
use Rattle.ifdb_authority.proofs.GrantorLemmas.{indexed-more}
use Rattle.ifdb_authority.proofs.authority.Authority.add_grant.Goals as goal

pub invariant_of-self-in_default : goal.invariant_of-self-in_default
invariant_of-self-in_default c =
    let g = c.args.grant in
    search (rules, indexed-more c.self.inside.grantors c.add.new.self c.self.inside.grants.keys g.from g.tag g.to c.self.invariant)
