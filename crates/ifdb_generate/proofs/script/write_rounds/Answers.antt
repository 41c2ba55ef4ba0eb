use Rattle.std.proofs.Common.{rules, subst, ◌<◌, ◌∙◌, List, ℕ}
use Rattle.std.specs.Io.KnownBytes.{Appends}
use Rattle.ifdb_io.specs.Causes.{WritesShort}
use Rattle.ifdb_generate.proofs.Joined.{one_cut, one_written}
use Rattle.ifdb_generate.proofs.script.write_rounds.Goals as goal

pub returns-in_err-write_all-clause-err : goal.returns-in_err-write_all-clause-err
returns-in_err-write_all-clause-err g c =
    let wrote = g.W.Sink.written in
    let is = c.as_bytes.ensures.value ∙ c.as_str.ensures.value ∙ c.round.ensures in
    let few = subst (λ (n : ℕ). c.loop-done.done < n) c.inserts-done-end.ensures c.loop-done-test.true in
    let cut = subst (λ (text : List ℕ). WritesShort (wrote c.loop-done.output) (wrote c.write_all.new.sink) text) is c.in_err-write_all.ensures.err in
    let short = one_cut c.args.size c.loop-done.done c.loop-done.draw c.next-draw.result (wrote c.args.output.now) _ _ few
    c.loop-done.invariant.0 c.loop-done.invariant.1.1.0 c.next-draw.ensures.next cut in
    search rules

pub loop-done-preserved : goal.loop-done-preserved
loop-done-preserved g c =
    let wrote = g.W.Sink.written in
    let is = c.as_bytes.ensures.value ∙ c.as_str.ensures.value ∙ c.round.ensures in
    let whole = subst (λ (text : List ℕ). Appends (wrote c.loop-done.output) (wrote c.write_all.new.sink) text) is c.in_ok-write_all.ensures.ok in
    let more = one_written c.args.size c.loop-done.done c.loop-done.draw c.next-draw.result (wrote c.args.output.now) _ _
    c.loop-done.invariant.0 c.loop-done.invariant.1.1.0 c.next-draw.ensures.next whole in
    (more.0, (c.in_ok-write_all.ensures.cause.kept ∙ c.loop-done.invariant.1.0, (more.1, c.next-draw.ensures.small)))
