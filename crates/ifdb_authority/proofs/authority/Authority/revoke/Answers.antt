use Rattle.std.proofs.Common.{sym, subst, ◌∙◌, List, rules}
use Rattle.ifdb_authority.specs.declared.grant.Grant.{Grant}
use Rattle.ifdb_authority.specs.Grantors.{IsIndexed}
use Rattle.ifdb_authority.specs.Authority.{grant}
use Rattle.ifdb_authority.proofs.GrantorLemmas.{indexed-less, remove_key-distinct}
use Rattle.ifdb_authority.proofs.authority.Authority.revoke.Goals as goal

pub invariant_of-self-2 : goal.invariant_of-self-2
invariant_of-self-2 c =
    let P : List Grant → Type 0 = λ grants. IsIndexed c.remove.new.self grants in
    let g = grant c.args.from c.args.tag c.args.to in
    let keys = c.shift_remove.ensures.keys ∙ remove_key-distinct g c.self.inside.grants.keys c.self.invariant.distinct in
    subst P (sym keys) (indexed-less c.self.inside.grantors c.remove.new.self c.self.inside.grants.keys c.args.from c.args.tag c.args.to c.self.invariant c.remove.ensures)

pub returns-clause-revoked : goal.returns-clause-revoked
returns-clause-revoked c =
    let g = grant c.args.from c.args.tag c.args.to in
    let keys = c.shift_remove.ensures.keys ∙ remove_key-distinct g c.self.inside.grants.keys c.self.invariant.distinct in
    rw (← c.self.view_is, keys) search rules
