use Rattle.std.proofs.Common.{arith, refl, sym, ap, subst, false, ◌∙◌, ◌≤◌}
use Rattle.ifdb_io.specs.Lines.{Reading}
use Rattle.ifdb_closure.proofs.Progress.{Reached, reached_none, reached_line, reached_long, ran_end, ran_rest, ran_read, ran_over, ran_cut_line, ran_cut_long, ran_cut_rest}
use Rattle.ifdb_closure.proofs.script.run_lines.Goals as goal

pub lines-init : goal.lines-init
lines-init g c =
    let stage = c.args.stage.now in
    let left = g.R.Source.left c.args.input.now in
    let written = g.W.Sink.written c.args.output.now in
    let none = reached_none left written c.args.reader.now.limit false stage c.requires.opening in
    record {
      reached = subst (λ reader. Reached left left written written reader stage) (sym c.requires.fresh) none;
      goes = ap (λ (reader : Reading). reader.over) c.requires.fresh;
      limit = refl;
      unfailed = refl;
      output_later = omega arith;
    }

-- the stage of a run that goes on stands for a world
pub take-requires-clause-set : goal.take-requires-clause-set
take-requires-clause-set g c = let r = c.lines.invariant.reached in (r.world, r.stands)

pub returns-in-Err-Read-clause-read_front : goal.returns-in-Err-Read-clause-read_front
returns-in-Err-Read-clause-read_front g c = λ _.
    let e = rw c.in-Err-Read.field-0-is at c.in-Err-Read.ensures in
    ran_read _ _ _ _ _ c.lines.reader c.next.new.self c.lines.stage c.args.reader.now.limit c.lines.invariant.reached (e.read refl)
    (omega (arith, e.within (λ q. cc), e.limit, c.lines.invariant.limit))

pub returns-in-Err-TooMuch-clause-too_large : goal.returns-in-Err-TooMuch-clause-too_large
returns-in-Err-TooMuch-clause-too_large g c = λ _.
    let e = rw c.in-Err-TooMuch.field-0-is at c.in-Err-TooMuch.ensures in
    ran_over _ _ _ _ _ c.lines.reader c.next.new.self c.lines.stage c.args.reader.now.limit c.lines.invariant.reached (e.much refl)
    (e.limit ∙ c.lines.invariant.limit)

pub returns-in-Ok-End-clause-done : goal.returns-in-Ok-End-clause-done
returns-in-Ok-End-clause-done g c = λ _.
    let e = rw c.in-Ok-End.field-0-is at c.in-Ok-End.ensures in
    ran_end _ _ _ _ _ c.lines.reader c.next.new.self c.lines.stage c.args.reader.now.limit c.lines.invariant.reached (e.end refl) (e.end_none refl) (e.end_last refl)
    (omega (arith, e.within (λ q. cc), e.limit, c.lines.invariant.limit))

pub returns-in-Err-clause-write_front : goal.returns-in-Err-clause-write_front
returns-in-Err-clause-write_front g c = λ _.
    let e = rw c.in-Ok-Rest.field-0-is at c.in-Ok-Rest.ensures in
    let plays = rw c.text.ensures at c.take.ensures in
    let short = rw c.bytes.ensures at c.in-Err.ensures.err in
    let within : c.next.new.self.taken ≤ c.args.reader.now.limit = omega (arith, e.within (λ q. cc), e.limit, c.lines.invariant.limit) in
    ran_cut_rest c.args.reader.now.limit _ _ _ _ _ _ c.lines.reader c.next.new.self c.lines.stage c.take.new.self _
    c.lines.invariant.reached (e.rest refl) (e.rest_some refl) within plays short

pub returns-in-Ok-Rest-clause-done : goal.returns-in-Ok-Rest-clause-done
returns-in-Ok-Rest-clause-done g c = λ _.
    let e = rw c.in-Ok-Rest.field-0-is at c.in-Ok-Rest.ensures in
    let plays = rw c.text.ensures at c.take.ensures in
    let wrote = rw c.bytes.ensures at c.in_default.ensures.ok in
    let within : c.next.new.self.taken ≤ c.args.reader.now.limit = omega (arith, e.within (λ q. cc), e.limit, c.lines.invariant.limit) in
    ran_rest _ _ _ _ _ _ c.lines.reader c.next.new.self c.lines.stage c.take.new.self _ c.args.reader.now.limit
    c.lines.invariant.reached (e.rest refl) (e.rest_some refl) (e.rest_last refl) within plays wrote

pub returns-in-Err-write_all-clause-write_front : goal.returns-in-Err-write_all-clause-write_front
returns-in-Err-write_all-clause-write_front g c = λ _.
    let e = rw c.in-Ok-Whole.field-0-is at c.in-Ok-Whole.ensures in
    let plays = rw c.text-in-Ok-Whole.ensures at c.take-in-Ok-Whole.ensures in
    let short = rw c.bytes-in-Ok-Whole.ensures at c.in-Err-write_all.ensures.err in
    let within : c.next.new.self.taken ≤ c.args.reader.now.limit = omega (arith, e.within (λ q. cc), e.limit, c.lines.invariant.limit) in
    ran_cut_line c.args.reader.now.limit _ _ _ _ _ _ c.lines.reader c.next.new.self c.lines.stage c.take-in-Ok-Whole.new.self _
    c.lines.invariant.reached (e.whole refl) (e.whole_line refl) (e.whole_kept refl) plays within short

pub lines-preserved-in_default-write_all : goal.lines-preserved-in_default-write_all
lines-preserved-in_default-write_all g c =
    let e = rw c.in-Ok-Whole.field-0-is at c.in-Ok-Whole.ensures in
    let plays = rw c.text-in-Ok-Whole.ensures at c.take-in-Ok-Whole.ensures in
    let wrote = rw c.bytes-in-Ok-Whole.ensures at c.in_default-write_all.ensures.ok in
    record {
      reached = reached_line _ _ _ _ _ _ c.lines.reader c.next.new.self c.lines.stage c.take-in-Ok-Whole.new.self _
          c.lines.invariant.reached (e.whole refl) (e.whole_line refl) (e.whole_kept refl) plays wrote;
      goes = e.over;
      limit = e.limit ∙ c.lines.invariant.limit;
      unfailed = e.unfailed (λ q. cc) ∙ c.lines.invariant.unfailed;
      output_later = omega (arith, c.in_default-write_all.ensures.cause.later, c.lines.invariant.output_later);
    }

pub returns-in-Err-write_all-2-clause-write_front : goal.returns-in-Err-write_all-2-clause-write_front
returns-in-Err-write_all-2-clause-write_front g c = λ _.
    let e = rw c.in-Ok-TooLong.field-0-is at c.in-Ok-TooLong.ensures in
    let short = rw c.bytes-in-Ok-TooLong.ensures at c.in-Err-write_all-2.ensures.err in
    let within : c.next.new.self.taken ≤ c.args.reader.now.limit = omega (arith, e.within (λ q. cc), e.limit, c.lines.invariant.limit) in
    ran_cut_long c.args.reader.now.limit _ _ _ _ _ _ c.lines.reader c.next.new.self c.lines.stage c.refuse_long.new.self c.refuse_long.new.out.text
    c.lines.invariant.reached (e.long refl) (e.long_line refl) (e.long_skips refl) c.refuse_long.ensures within short

pub lines-preserved : goal.lines-preserved
lines-preserved g c =
    let e = rw c.in-Ok-TooLong.field-0-is at c.in-Ok-TooLong.ensures in
    let wrote = rw c.bytes-in-Ok-TooLong.ensures at c.in_default-write_all-2.ensures.ok in
    record {
      reached = reached_long _ _ _ _ _ _ c.lines.reader c.next.new.self c.lines.stage c.refuse_long.new.self c.refuse_long.new.out.text
          c.lines.invariant.reached (e.long refl) (e.long_line refl) (e.long_skips refl) c.refuse_long.ensures wrote;
      goes = e.over;
      limit = e.limit ∙ c.lines.invariant.limit;
      unfailed = e.unfailed (λ q. cc) ∙ c.lines.invariant.unfailed;
      output_later = omega (arith, c.in_default-write_all-2.ensures.cause.later, c.lines.invariant.output_later);
    }
