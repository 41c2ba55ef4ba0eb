use Rattle.std.proofs.Common.{arith, ap, sym, ◌∙◌, ◌≡◌, [], true}
use Rattle.std.proofs.lemmas.Bool.Decides.{nat_tests}
use Rattle.std.proofs.lemmas.List.{nil_from_length}
use Rattle.ifdb_authority.specs.Grantors.{grantors_of, is_same_holding}
use Rattle.ifdb_authority.proofs.SearchLemmas.{same_holding_is}
use Rattle.ifdb_authority.proofs.grantors.Grantors.forget_if_none.Goals as goal

pub returns-then-is_empty : goal.returns-then-is_empty
returns-then-is_empty c h =
    let none : grantors_of c.args.self.now c.args.to.now ≡ [] = sym c.of.ensures ∙ nil_from_length c.of.result.now (grind (arith, nat_tests, c.is_empty.ensures, c.if-is_empty.true)) in
    let at : is_same_holding c.args.to.now h ≡ true → grantors_of c.args.self.now h ≡ [] = λ e. ap (grantors_of c.args.self.now) (sym (same_holding_is c.args.to.now h e)) ∙ none in
    grind (arith, nat_tests, c.remove.ensures.updates.0 h, at)
