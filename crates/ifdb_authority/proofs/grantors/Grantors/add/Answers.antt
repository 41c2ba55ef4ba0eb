use Rattle.std.proofs.Common.{rules, arith}
use Rattle.std.proofs.lemmas.Bool.Decides.{nat_tests}
use Rattle.ifdb_authority.specs.Grantors.{IsSameIndex}
use Rattle.ifdb_authority.proofs.grantors.Grantors.add.Goals as goal

pub returns-in_err-push-in-Some-clause-err : goal.returns-in_err-push-in-Some-clause-err
returns-in_err-push-in-Some-clause-err c =
    let same : IsSameIndex c.args.self.now (record { alloc = c.args.self.now.alloc; lists = c.get_mut.follows.lender c.push.new.self }) = λ h.
    let written = ((c.get_mut.follows.holds c.push.new.self).3 (search rules)).0 h in
    grind (arith, nat_tests, written, c.get_mut.ensures.value) in
    search (rules, same)

pub returns-in_ok-insert-in-None-clause-ok : goal.returns-in_ok-insert-in-None-clause-ok
returns-in_ok-insert-in-None-clause-ok c h = grind (arith, nat_tests, c.in_ok-insert-in-None.ensures.updates.0 h, c.in-None.ensures.value)
