use Rattle.std.proofs.Common.{rules, arith, eqb}
use Rattle.std.specs.Prelude.{not}
use Rattle.std.proofs.lemmas.Bool.Decides.{nat_tests}
use Rattle.std.proofs.lemmas.Fn.{filter_same}
use Rattle.ifdb_authority.proofs.grantors.Grantors.strike.Goals as goal

pub returns-in-Some : goal.returns-in-Some
returns-in-Some c h =
    let kept = filter_same _ (λ p. not (eqb p c.args.from)) _ (λ t b f r. search rules) _ _ c.retain.ensures.filtered in
    let written = ((c.get_mut.follows.holds c.retain.new.self).3 (search rules)).0 h in
    grind (arith, nat_tests, kept, written, c.get_mut.ensures.value)
