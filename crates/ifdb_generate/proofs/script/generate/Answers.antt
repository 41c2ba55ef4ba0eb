use Rattle.std.proofs.Common.{rules, subst, List, ℕ}
use Rattle.std.proofs.lemmas.Result.{on_ok_weaker, on_err_weaker}
use Rattle.std.specs.Io.KnownBytes.{Appends}
use Rattle.ifdb_io.specs.Causes.{WritesShort}
use Rattle.ifdb_io.proofs.Behind.{all_then, short_first, short_then}
use Rattle.ifdb_generate.specs.Script.{rounds, setup}
use Rattle.ifdb_generate.proofs.script.generate.Goals as goal

pub returns-in_err-write_all-clause-err : goal.returns-in_err-write_all-clause-err
returns-in_err-write_all-clause-err g c =
    let cut = subst (λ (text : List ℕ). WritesShort (g.W.Sink.written c.args.output.now) (g.W.Sink.written c.write_all.new.sink) text) c.as_bytes.ensures.value c.in_err-write_all.ensures.err in
    let short = short_first _ _ setup (rounds c.args.size c.args.size) cut in
    search rules

pub returns-clause-ok : goal.returns-clause-ok
returns-clause-ok g c =
    let first = subst (λ (text : List ℕ). Appends (g.W.Sink.written c.args.output.now) (g.W.Sink.written c.write_all.new.sink) text) c.as_bytes.ensures.value c.in_ok-write_all.ensures.ok in
    on_ok_weaker c.write_rounds.result (all_then _ _ _ setup (rounds c.args.size c.args.size) first) c.write_rounds.ensures.ok

pub returns-clause-err : goal.returns-clause-err
returns-clause-err g c =
    let first = subst (λ (text : List ℕ). Appends (g.W.Sink.written c.args.output.now) (g.W.Sink.written c.write_all.new.sink) text) c.as_bytes.ensures.value c.in_ok-write_all.ensures.ok in
    on_err_weaker c.write_rounds.result (short_then _ _ _ setup (rounds c.args.size c.args.size) first) c.write_rounds.ensures.err
