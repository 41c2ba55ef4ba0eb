use Rattle.std.proofs.Common.{rules}
use Rattle.ifdb_closure.specs.Ran.{RanWhole}
use Rattle.ifdb_closure.proofs.RanLaws.{is_framed_run, keeps_levels, told_by_bytes}
use Rattle.ifdb_closure.proofs.script.closure_script.Goals as goal

pub returns-clause-told_by_bytes : goal.returns-clause-told_by_bytes
returns-clause-told_by_bytes g c = λ done.
    let ran : RanWhole c.args.limit (g.R.Source.left c.args.input.now) (g.R.Source.left c.run_lines.new.input) (g.W.Sink.written c.args.output.now) (g.W.Sink.written c.run_lines.new.output) = search rules in
    told_by_bytes c.memory_is_never_told.ensures.lines _ _ _ _ _ ran

pub returns-clause-framed : goal.returns-clause-framed
returns-clause-framed g c = λ done.
    let ran : RanWhole c.args.limit (g.R.Source.left c.args.input.now) (g.R.Source.left c.run_lines.new.input) (g.W.Sink.written c.args.output.now) (g.W.Sink.written c.run_lines.new.output) = search rules in
    is_framed_run _ _ _ _ _ ran

pub returns-clause-worlds : goal.returns-clause-worlds
returns-clause-worlds g c = λ done.
    let ran : RanWhole c.args.limit (g.R.Source.left c.args.input.now) (g.R.Source.left c.run_lines.new.input) (g.W.Sink.written c.args.output.now) (g.W.Sink.written c.run_lines.new.output) = search rules in
    keeps_levels _ _ _ _ _ ran
