use Rattle.std.proofs.Common.{sym, subst}
use Rattle.ifdb_closure.specs.Forms.{IsFoundAs}
use Rattle.ifdb_closure.proofs.statements.found_as.Goals as goal

pub returns-in-Ok : goal.returns-in-Ok
returns-in-Ok c =
    let read = rw c.as_bytes.ensures at c.in-Ok.ensures.request in
    subst (λ p. IsFoundAs p c.found_of.result) (sym read) c.found_of.ensures
