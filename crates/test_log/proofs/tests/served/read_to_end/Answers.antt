use Rattle.std.proofs.Common.{Bool, Ok, ◌++◌, ◌∷◌, [], ap}
use Rattle.test_log.proofs.tests.served.read_to_end.Goals as goal

pub returns-then-not-branch : goal.returns-then-not-branch
returns-then-not-branch g c =
    let end = c.in_ok-next.ensures.end (ap (λ (b : Bool). Ok b) c.if-not-branch.true) c.texts.invariant.0 c.texts.invariant.1 in
    end.holds

pub texts-preserved : goal.texts-preserved
texts-preserved g c =
    (c.texts.invariant.0 ++ c.next.new.self.text ∷ [], c.in_ok-next.ensures.text (ap (λ (b : Bool). Ok b) c.if-not-branch.false) c.texts.invariant.0 c.texts.invariant.1)
