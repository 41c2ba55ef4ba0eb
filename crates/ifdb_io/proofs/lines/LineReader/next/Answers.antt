use Rattle.std.proofs.Common.{◌≡◌, ◌∙◌, arith, rules, refl}
use Rattle.ifdb_io.specs.declared.lines.LineFault.TheVariants as LineFault
use Rattle.ifdb_io.proofs.ReaderLemmas.{Comes-more, Comes-on, given, ended, exceeded}
use Rattle.ifdb_io.proofs.lines.LineReader.next.Goals as goal

pub returns-in_err-ready-clause-read : goal.returns-in_err-ready-clause-read
returns-in_err-ready-clause-read g c = λ e.
    let fault : c.in_err-ready.field-0.0 ≡ LineFault.Read = search rules in
    let come = Comes-more _ _ _ _ _ _ c.loop-self.invariant.came (c.in_err-ready.ensures.bytes (λ q. cc)) in
    ended _ _ _ _ come (c.in_err-ready.ensures.none (λ q. cc)) (rw c.in_err-ready.ensures.text c.loop-self.invariant.line)

pub returns-in_err-ready-clause-much : goal.returns-in_err-ready-clause-much
returns-in_err-ready-clause-much g c = λ e.
    let fault : c.in_err-ready.field-0.0 ≡ LineFault.TooMuch = search rules in
    let past = c.in_err-ready.ensures.past (cc) in
    exceeded _ _ _ _ _ _ c.loop-self.invariant.came past (c.in_err-ready.ensures.none (λ q. cc)) (rw c.in_err-ready.ensures.text c.loop-self.invariant.line)

pub returns-in-Line-clause-whole : goal.returns-in-Line-clause-whole
returns-in-Line-clause-whole g c = λ _.
    let come = Comes-more _ _ _ _ _ _ c.loop-self.invariant.came (c.in_ok-ready.ensures.bytes (λ e. cc)) in
    given _ _ _ _ _ _ come (c.in-Line.ensures.newline refl) c.in-Line.ensures.goes_on.taken

pub returns-in-Long-clause-long : goal.returns-in-Long-clause-long
returns-in-Long-clause-long g c = λ _.
    let come = Comes-more _ _ _ _ _ _ c.loop-self.invariant.came (c.in_ok-ready.ensures.bytes (λ e. cc)) in
    given _ _ _ _ _ _ come (c.in-Long.ensures.long refl) c.in-Long.ensures.goes_on.taken

pub loop-self-preserved : goal.loop-self-preserved
loop-self-preserved g c =
    let come = Comes-more _ _ _ _ _ _ c.loop-self.invariant.came (c.in_ok-ready.ensures.bytes (λ e. cc)) in
    record {
      came = Comes-on _ _ _ _ _ come (c.in-All.ensures.all refl) c.in-All.ensures.goes_on.taken;
      line = c.in-All.ensures.line (λ e. cc);
      kept = c.in_ok-ready.ensures.unfailed (λ e. cc) ∙ c.loop-self.invariant.kept;
      beside = search rules;
      limit = search rules;
      over = search rules;
      falls = search rules;
    }

pub returns-then-is_empty-clause-end : goal.returns-then-is_empty-clause-end
returns-then-is_empty-clause-end g c = λ _.
    let come = Comes-more _ _ _ _ _ _ c.loop-self.invariant.came (c.in_ok-ready.ensures.bytes (λ e. cc)) in
    ended _ _ _ _ come (c.in_ok-ready.ensures.none (λ e. cc)) (rw c.in_ok-ready.ensures.text c.loop-self.invariant.line)

pub returns-clause-rest : goal.returns-clause-rest
returns-clause-rest g c = λ _.
    let come = Comes-more _ _ _ _ _ _ c.loop-self.invariant.came (c.in_ok-ready.ensures.bytes (λ e. cc)) in
    ended _ _ _ _ come (c.in_ok-ready.ensures.none (λ e. cc)) (rw c.in_ok-ready.ensures.text c.loop-self.invariant.line)
