use Rattle.std.proofs.Common.{◌≡◌, ◌∙◌, true, false, All, sym, subst, arith, rules}
use Rattle.std.proofs.lemmas.List.{take_all}
use Rattle.std.proofs.lemmas.List.Elements.{All-more}
use Rattle.ifdb_host.proofs.serving.have_ended.Goals as goal

pub loop-gate-preserved : goal.loop-gate-preserved
loop-gate-preserved g c =
    All-more (λ gate. g.G.Gate.ended gate ≡ true) c.args.gates.now c.loop-gate.gate-index c.gate-item.result (search rules) c.loop-gate.invariant (search rules)

pub returns-clause-all : goal.returns-clause-all
returns-clause-all g c = λ _. subst (All (λ gate. g.G.Gate.ended gate ≡ true)) (take_all c.loop-gate.gate-index c.args.gates.now (omega (arith, c.loop-gate-test.false, c.loop-gate.auto.gate-index-end))) c.loop-gate.invariant

-- this one isn't
pub returns-then-not-has_ended-clause-one : goal.returns-then-not-has_ended-clause-one
returns-then-not-has_ended-clause-one g c = λ _.
    let off : g.G.Gate.ended c.gate-item.result ≡ false = sym c.has_ended.ensures ∙ c.if-not-has_ended.true in
    (c.gate-item.result, (c.loop-gate.gate-index, search rules, sym c.gate-item.is), off)
