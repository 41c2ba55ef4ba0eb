use Rattle.std.proofs.Common.{ap, ◌∙◌, rules}
use Rattle.ifdb_authority.specs.Authority.{Delegation}
use Rattle.ifdb_authority.proofs.GrantorLemmas.{granted_next}
use Rattle.ifdb_authority.proofs.authority.Authority.copy.Goals as goal

pub loop-grant-preserved : goal.loop-grant-preserved
loop-grant-preserved c =
    let next = granted_next c.args.self.now.grants c.loop-grant.grant-index c.grant-item.result c.loop-grant.copy (search rules) (search rules) (search rules) c.loop-grant.invariant.grants in
    let whole = c.in_ok-add_grant.ensures.ok ∙ next in
    record { owners = ap (λ (a : Delegation). a.owners) whole ∙ c.loop-grant.invariant.owners; grants = ap (λ (a : Delegation). a.grants) whole }
