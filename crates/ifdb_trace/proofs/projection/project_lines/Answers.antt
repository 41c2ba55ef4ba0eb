use Rattle.std.proofs.Common.{◌≡◌, ◌≤◌, false, refl, sym, ap, subst, ◌∙◌, arith}
use Rattle.ifdb_io.specs.Lines.{Reading}
use Rattle.ifdb_trace.specs.Projected.{ProjectedCut}
use Rattle.ifdb_trace.proofs.Showing.{Shown, shown_none, shown_line, cut_line, lacks_line, shown_over, cut_over, shown_end, shown_read, shown_rest, cut_rest, lacks_rest, shown_past}
use Rattle.ifdb_trace.proofs.projection.project_lines.Goals as goal

pub lines-init : goal.lines-init
lines-init g c =
    let left = g.R.Source.left c.args.input.now in
    let written = g.W.Sink.written c.args.output.now in
    let none = shown_none c.args.level.now left written c.args.reader.now.limit false c.args.room.now c.requires.opening in
    record {
      shown = subst (λ reader. Shown c.args.level.now left left written written reader c.args.room.now) (sym c.requires.fresh) none;
      goes = ap (λ (reader : Reading). reader.over) c.requires.fresh;
      limit = refl;
      input_later = omega arith;
      unfailed = refl;
      output_later = omega arith;
    }

pub returns-in-Err-Read-clause-read_front : goal.returns-in-Err-Read-clause-read_front
returns-in-Err-Read-clause-read_front g c = λ _.
    let e = rw c.in-Err-Read.field-0-is at c.in-Err-Read.ensures in
    let within : c.next.new.self.taken ≤ c.args.reader.now.limit = omega (arith, e.within (λ q. cc), e.limit, c.lines.invariant.limit) in
    shown_read c.args.reader.now.limit _ _ _ _ _ _ c.lines.reader c.next.new.self c.lines.room c.lines.invariant.shown (e.read refl) within

pub returns-in-Err-TooMuch-clause-too_large : goal.returns-in-Err-TooMuch-clause-too_large
returns-in-Err-TooMuch-clause-too_large g c = λ _.
    let e = rw c.in-Err-TooMuch.field-0-is at c.in-Err-TooMuch.ensures in
    shown_past c.args.reader.now.limit _ _ _ _ _ _ c.lines.reader c.next.new.self c.lines.room c.lines.invariant.shown (e.much refl) (e.limit ∙ c.lines.invariant.limit)

pub returns-in-Ok-End-clause-done : goal.returns-in-Ok-End-clause-done
returns-in-Ok-End-clause-done g c = λ _.
    let e = rw c.in-Ok-End.field-0-is at c.in-Ok-End.ensures in
    let within : c.next.new.self.taken ≤ c.args.reader.now.limit = omega (arith, e.within (λ q. cc), e.limit, c.lines.invariant.limit) in
    shown_end c.args.reader.now.limit _ _ _ _ _ _ c.lines.reader c.next.new.self c.lines.room c.lines.invariant.shown (e.end refl) within (e.end_none refl) (e.end_last refl)

pub returns-in-Ok-clause-done : goal.returns-in-Ok-clause-done
returns-in-Ok-clause-done g c = λ _.
    let e = rw c.in-Ok-Rest.field-0-is at c.in-Ok-Rest.ensures in
    let p = rw c.text.ensures at c.in-Ok.ensures.shown in
    let within : c.next.new.self.taken ≤ c.args.reader.now.limit = omega (arith, e.within (λ q. cc), e.limit, c.lines.invariant.limit) in
    shown_rest c.args.reader.now.limit _ _ _ _ _ _ c.lines.reader c.next.new.self c.lines.room c.lines.invariant.shown (e.rest refl) (e.rest_some refl) _ _
    within (e.rest_last refl) p

pub returns-in-Err-Write-clause-write_front : goal.returns-in-Err-Write-clause-write_front
returns-in-Err-Write-clause-write_front g c = λ _.
    let e = rw c.in-Ok-Rest.field-0-is at c.in-Ok-Rest.ensures in
    let f = rw c.in-Err-Write.field-0-is at c.in-Err-Write.ensures in
    let cut = rw c.text.ensures at f.write_cut refl in
    let within : c.next.new.self.taken ≤ c.args.reader.now.limit = omega (arith, e.within (λ q. cc), e.limit, c.lines.invariant.limit) in
    cut_rest c.args.reader.now.limit _ _ _ _ _ _ c.lines.reader c.next.new.self c.lines.room c.lines.invariant.shown (e.rest refl) (e.rest_some refl) _ within cut

pub returns-in-Err-OutOfMemory-clause-memory_front : goal.returns-in-Err-OutOfMemory-clause-memory_front
returns-in-Err-OutOfMemory-clause-memory_front g c = λ _.
    let e = rw c.in-Ok-Rest.field-0-is at c.in-Ok-Rest.ensures in
    let f = rw c.in-Err-OutOfMemory.field-0-is at c.in-Err-OutOfMemory.ensures in
    let within : c.next.new.self.taken ≤ c.args.reader.now.limit = omega (arith, e.within (λ q. cc), e.limit, c.lines.invariant.limit) in
    subst (λ output. ProjectedCut c.args.reader.now.limit c.args.level.now (g.R.Source.left c.args.input.now) (g.R.Source.left c.next.new.source) (g.W.Sink.written c.args.output.now) (g.W.Sink.written output)) (sym (f.memory refl))
    (lacks_rest c.args.reader.now.limit _ _ _ _ _ _ c.lines.reader c.next.new.self c.lines.room c.lines.invariant.shown (e.rest refl) (e.rest_some refl) within)

pub lines-preserved-in-Ok-project_line : goal.lines-preserved-in-Ok-project_line
lines-preserved-in-Ok-project_line g c =
    let e = rw c.in-Ok-Whole.field-0-is at c.in-Ok-Whole.ensures in
    let p = rw c.text-in-Ok-Whole.ensures at c.in-Ok-project_line.ensures.shown in
    record {
      shown = shown_line c.args.reader.now.limit _ _ _ _ _ _ c.lines.reader c.next.new.self c.lines.room c.lines.invariant.shown
          (e.whole refl) (e.whole_line refl) (e.whole_kept refl) _ _ p;
      goes = e.over;
      limit = e.limit ∙ c.lines.invariant.limit;
      input_later = omega (arith, e.later, c.lines.invariant.input_later);
      unfailed = e.unfailed (λ q. cc) ∙ c.lines.invariant.unfailed;
      output_later = omega (arith, c.in-Ok-project_line.ensures.later, c.lines.invariant.output_later);
    }

pub returns-in-Err-Write-project_line-clause-write_front : goal.returns-in-Err-Write-project_line-clause-write_front
returns-in-Err-Write-project_line-clause-write_front g c = λ _.
    let e = rw c.in-Ok-Whole.field-0-is at c.in-Ok-Whole.ensures in
    let f = rw c.in-Err-Write-project_line.field-0-is at c.in-Err-Write-project_line.ensures in
    let cut = rw c.text-in-Ok-Whole.ensures at f.write_cut refl in
    let within : c.next.new.self.taken ≤ c.args.reader.now.limit = omega (arith, e.within (λ q. cc), e.limit, c.lines.invariant.limit) in
    cut_line c.args.reader.now.limit _ _ _ _ _ _ c.lines.reader c.next.new.self c.lines.room c.lines.invariant.shown
    (e.whole refl) (e.whole_line refl) (e.whole_kept refl) _ within cut

pub returns-in-Err-OutOfMemory-project_line-clause-memory_front : goal.returns-in-Err-OutOfMemory-project_line-clause-memory_front
returns-in-Err-OutOfMemory-project_line-clause-memory_front g c = λ _.
    let e = rw c.in-Ok-Whole.field-0-is at c.in-Ok-Whole.ensures in
    let f = rw c.in-Err-OutOfMemory-project_line.field-0-is at c.in-Err-OutOfMemory-project_line.ensures in
    let within : c.next.new.self.taken ≤ c.args.reader.now.limit = omega (arith, e.within (λ q. cc), e.limit, c.lines.invariant.limit) in
    subst (λ output. ProjectedCut c.args.reader.now.limit c.args.level.now (g.R.Source.left c.args.input.now) (g.R.Source.left c.next.new.source) (g.W.Sink.written c.args.output.now) (g.W.Sink.written output)) (sym (f.memory refl))
    (lacks_line c.args.reader.now.limit _ _ _ _ _ _ c.lines.reader c.next.new.self c.lines.room c.lines.invariant.shown
    (e.whole refl) (e.whole_line refl) (e.whole_kept refl) within)

pub returns-in-Err-clause-write_front : goal.returns-in-Err-clause-write_front
returns-in-Err-clause-write_front g c = λ _.
    let e = rw c.in-Ok-TooLong.field-0-is at c.in-Ok-TooLong.ensures in
    let short = rw c.overlong.ensures at c.in-Err.ensures.err in
    let within : c.next.new.self.taken ≤ c.args.reader.now.limit = omega (arith, e.within (λ q. cc), e.limit, c.lines.invariant.limit) in
    cut_over c.args.reader.now.limit _ _ _ _ _ _ c.lines.reader c.next.new.self c.lines.room c.lines.invariant.shown
    (e.long refl) (e.long_line refl) (e.long_skips refl) _ within short

pub lines-preserved : goal.lines-preserved
lines-preserved g c =
    let e = rw c.in-Ok-TooLong.field-0-is at c.in-Ok-TooLong.ensures in
    let wrote = rw c.overlong.ensures at c.in_default.ensures.ok in
    record {
      shown = shown_over c.args.reader.now.limit _ _ _ _ _ _ c.lines.reader c.next.new.self c.lines.room c.lines.invariant.shown
          (e.long refl) (e.long_line refl) (e.long_skips refl) _ wrote;
      goes = e.over;
      limit = e.limit ∙ c.lines.invariant.limit;
      input_later = omega (arith, e.later, c.lines.invariant.input_later);
      unfailed = e.unfailed (λ q. cc) ∙ c.lines.invariant.unfailed;
      output_later = omega (arith, c.in_default.ensures.cause.later, c.lines.invariant.output_later);
    }
