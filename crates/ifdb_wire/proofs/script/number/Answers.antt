use Rattle.std.proofs.Common.{◌<◌, ◌∙◌, length, sym, arith}
use Rattle.std.proofs.lemmas.Bool.Decides.{nat_tests}
use Rattle.ifdb_wire.proofs.Numbers.{digits_number_some}
use Rattle.ifdb_wire.proofs.script.number.Goals as goal

pub returns-clause-range : goal.returns-clause-range
returns-clause-range c n e =
    let some : 0 < length c.args.digits.now = grind (arith, nat_tests, c.if-is_empty.ensures) in
    (digits_number_some c.args.digits.now n some c.if-digits-eq48.false (sym c.value.ensures.value ∙ e), rw e at c.value.ensures.small)
