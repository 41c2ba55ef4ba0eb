use Rattle.std.proofs.Common.{◌≡◌, ◌∷◌, ◌-◌, ◌≤◌, length, drop, sym, ap, subst, ◌∙◌}
use Rattle.ifdb_model.specs.Script.{lines_of}
use Rattle.ifdb_trace.proofs.Telling.{told_so}
use Rattle.ifdb_trace.proofs.reply.Untold.take_line.Goals as goal

pub returns-clause-told : goal.returns-clause-told
returns-clause-told c = λ _.
    let n = c.first_line-behind.result.1 in
    let first = c.first_line-behind.result.0.now in
    let text = c.self.inside.out.text in
    let same : c.rest-rest.result.now ≡ drop c.self.inside.at text = c.rest-rest.ensures ∙ sym c.self.view_is in
    let lines = subst (λ rest. lines_of rest ≡ first ∷ lines_of (drop n rest)) same c.first_line-behind.ensures.lines in
    let within = subst (λ rest. n ≤ length rest) same c.first_line-behind.ensures.within in
    ap lines_of (sym c.self.view_is)
    ∙ told_so text first c.args.line.now c.self.inside.at n c.self.invariant within (sym c.if-ne.ensures) lines
    ∙ (λ i. c.args.line.now ∷ lines_of (drop (length (sym c.bytes.ensures i) - (length (sym same i) - n)) text))
