use Rattle.std.proofs.Common.{arith, refl, sym, ap, subst, false, ◌∙◌, ◌≤◌, []}
use Rattle.ifdb_io.specs.Lines.{Reading}
use Rattle.ifdb_model.specs.Script.{line_steps}
use Rattle.ifdb_keep.proofs.Batches.{adds_none}
use Rattle.ifdb_keep.proofs.Flags.{goes_long}
use Rattle.ifdb_keep.proofs.Progress.{Reached, reached_none}
use Rattle.ifdb_keep.proofs.Ended.{based, goes_on, ready_on, lost_by, reached_line, reached_long, kept_end, kept_read, kept_over, kept_rest, cut_line, cut_long, cut_rest, short_line, short_rest}
use Rattle.ifdb_keep.proofs.keep.keep_lines.Goals as goal

pub lines-init : goal.lines-init
lines-init g c =
    let tells = g.D.Disk.tells c.args.disk.now in
    let left = g.R.Source.left c.args.input.now in
    let written = g.W.Sink.written c.args.output.now in
    let keeper = c.args.keeper.now in
    record {
      reached = λ first b.
          subst (λ reader. Reached b.before tells keeper.journal.at left left written written tells keeper.journal.at reader keeper.room) (sym c.requires.fresh)
          (reached_none b.before tells left written keeper.journal.at c.args.reader.now.limit false keeper.room b.stands);
      ready = c.requires.ready;
      base = refl;
      goes = ap (λ (reader : Reading). reader.over) c.requires.fresh;
      limit = refl;
      unfailed = refl;
      output_later = omega arith;
      disk = refl;
    }

pub returns-in-Err-Read-clause-read_front : goal.returns-in-Err-Read-clause-read_front
returns-in-Err-Read-clause-read_front g c = λ _ first b.
    let e = rw c.in-Err-Read.field-0-is at c.in-Err-Read.ensures in
    kept_read c.args.reader.now.limit first _ _ _ b _ _ _ _ _ _ _ _ (c.lines.invariant.reached first b) _ c.next.new.self (e.read refl)
    (omega (arith, e.within (λ q. cc), e.limit, c.lines.invariant.limit))

pub returns-in-Err-TooMuch-clause-too_large : goal.returns-in-Err-TooMuch-clause-too_large
returns-in-Err-TooMuch-clause-too_large g c = λ _ first b.
    let e = rw c.in-Err-TooMuch.field-0-is at c.in-Err-TooMuch.ensures in
    kept_over c.args.reader.now.limit first _ _ _ b _ _ _ _ _ _ _ _ (c.lines.invariant.reached first b) _ c.next.new.self (e.much refl) (e.limit ∙ c.lines.invariant.limit)

pub returns-in-Ok-End-clause-done : goal.returns-in-Ok-End-clause-done
returns-in-Ok-End-clause-done g c = λ _ first b.
    let e = rw c.in-Ok-End.field-0-is at c.in-Ok-End.ensures in
    kept_end c.args.reader.now.limit first _ _ _ b _ _ _ _ _ _ _ _ (c.lines.invariant.reached first b) _ c.next.new.self (e.end refl) (e.end_none refl) (e.end_last refl)
    (omega (arith, e.within (λ q. cc), e.limit, c.lines.invariant.limit))

-- ---- a last line without a newline

pub returns-in-Err-clause-disk_front : goal.returns-in-Err-clause-disk_front
returns-in-Err-clause-disk_front g c = λ _ first b.
    let e = rw c.in-Ok-Rest.field-0-is at c.in-Ok-Rest.ensures in
    let lost = rw c.text.ensures at c.in-Err.ensures.lost in
    let within : c.next.new.self.taken ≤ c.args.reader.now.limit = omega (arith, e.within (λ q. cc), e.limit, c.lines.invariant.limit) in
    let same = based first _ _ _ b c.lines.keeper.base (c.lines.invariant.base ∙ c.requires.base) in
    short_rest c.args.reader.now.limit first _ _ _ b _ _ _ _ _ _ _ _ (c.lines.invariant.reached first b) _ c.next.new.self c.take.new.self.room _ (e.rest refl) (e.rest_some refl) within
    (lost_by b.before c.lines.keeper.base same _ _ _ _ _ _ lost)

pub returns-in-Err-answer-clause-write_front : goal.returns-in-Err-answer-clause-write_front
returns-in-Err-answer-clause-write_front g c = λ _ first b.
    let e = rw c.in-Ok-Rest.field-0-is at c.in-Ok-Rest.ensures in
    let took = rw c.text.ensures at c.in_default.ensures.took in
    let steps = rw c.text.ensures at c.in_default.ensures.numbered in
    let within : c.next.new.self.taken ≤ c.args.reader.now.limit = omega (arith, e.within (λ q. cc), e.limit, c.lines.invariant.limit) in
    let same = based first _ _ _ b c.lines.keeper.base (c.lines.invariant.base ∙ c.requires.base) in
    let r = c.lines.invariant.reached first b in
    let goes = goes_on c.memory_is_never_told.ensures.lines b.before _ _ _ _ c.lines.keeper.base _ _ _ _ _ _ c.take.new.self.room (line_steps c.next.new.self.text) c.take.new.self.out.text took.0 same r steps took.1 in
    cut_rest c.args.reader.now.limit first _ _ _ b _ _ _ _ _ _ _ _ r _ _ c.next.new.self c.take.new.self.room c.take.new.self.out.text took.0 _ _ (e.rest refl) (e.rest_some refl) within goes took.2
    c.in-Err-answer.ensures.err

pub returns-in-Ok-Rest-clause-done : goal.returns-in-Ok-Rest-clause-done
returns-in-Ok-Rest-clause-done g c = λ _ first b.
    let e = rw c.in-Ok-Rest.field-0-is at c.in-Ok-Rest.ensures in
    let took = rw c.text.ensures at c.in_default.ensures.took in
    let steps = rw c.text.ensures at c.in_default.ensures.numbered in
    let within : c.next.new.self.taken ≤ c.args.reader.now.limit = omega (arith, e.within (λ q. cc), e.limit, c.lines.invariant.limit) in
    let same = based first _ _ _ b c.lines.keeper.base (c.lines.invariant.base ∙ c.requires.base) in
    let r = c.lines.invariant.reached first b in
    let goes = goes_on c.memory_is_never_told.ensures.lines b.before _ _ _ _ c.lines.keeper.base _ _ _ _ _ _ c.take.new.self.room (line_steps c.next.new.self.text) c.take.new.self.out.text took.0 same r steps took.1 in
    kept_rest c.args.reader.now.limit first _ _ _ b _ _ _ _ _ _ _ _ r _ _ c.next.new.self c.take.new.self.room c.take.new.self.out.text took.0 _ _ (e.rest refl) (e.rest_some refl) (e.rest_last refl) within
    goes took.2 c.in_default-answer.ensures.ok

-- ---- a line with a newline

pub returns-in-Err-take-clause-disk_front : goal.returns-in-Err-take-clause-disk_front
returns-in-Err-take-clause-disk_front g c = λ _ first b.
    let e = rw c.in-Ok-Whole.field-0-is at c.in-Ok-Whole.ensures in
    let lost = rw c.text-in-Ok-Whole.ensures at c.in-Err-take.ensures.lost in
    let within : c.next.new.self.taken ≤ c.args.reader.now.limit = omega (arith, e.within (λ q. cc), e.limit, c.lines.invariant.limit) in
    let same = based first _ _ _ b c.lines.keeper.base (c.lines.invariant.base ∙ c.requires.base) in
    short_line c.args.reader.now.limit first _ _ _ b _ _ _ _ _ _ _ _ (c.lines.invariant.reached first b) _ c.next.new.self c.take-in-Ok-Whole.new.self.room _ (e.whole refl) (e.whole_line refl) (e.whole_kept refl) within
    (lost_by b.before c.lines.keeper.base same _ _ _ _ _ _ lost)

pub returns-in-Err-answer-2-clause-write_front : goal.returns-in-Err-answer-2-clause-write_front
returns-in-Err-answer-2-clause-write_front g c = λ _ first b.
    let e = rw c.in-Ok-Whole.field-0-is at c.in-Ok-Whole.ensures in
    let took = rw c.text-in-Ok-Whole.ensures at c.in_default-take.ensures.took in
    let steps = rw c.text-in-Ok-Whole.ensures at c.in_default-take.ensures.numbered in
    let within : c.next.new.self.taken ≤ c.args.reader.now.limit = omega (arith, e.within (λ q. cc), e.limit, c.lines.invariant.limit) in
    let same = based first _ _ _ b c.lines.keeper.base (c.lines.invariant.base ∙ c.requires.base) in
    let r = c.lines.invariant.reached first b in
    let new = c.take-in-Ok-Whole.new.self in
    let goes = goes_on c.memory_is_never_told.ensures.lines b.before _ _ _ _ c.lines.keeper.base _ _ _ _ _ _ new.room (line_steps c.next.new.self.text) new.out.text took.0 same r steps took.1 in
    cut_line c.args.reader.now.limit first _ _ _ b _ _ _ _ _ _ _ _ r _ _ c.next.new.self new.room new.out.text took.0 _ _ (e.whole refl) (e.whole_line refl) (e.whole_kept refl) within goes took.2
    c.in-Err-answer-2.ensures.err

pub lines-preserved-in_default-answer-2 : goal.lines-preserved-in_default-answer-2
lines-preserved-in_default-answer-2 g c =
    let e = rw c.in-Ok-Whole.field-0-is at c.in-Ok-Whole.ensures in
    let took = rw c.text-in-Ok-Whole.ensures at c.in_default-take.ensures.took in
    let steps = rw c.text-in-Ok-Whole.ensures at c.in_default-take.ensures.numbered in
    let new = c.take-in-Ok-Whole.new.self in
    record {
      reached = λ first b.
          let same = based first _ _ _ b c.lines.keeper.base (c.lines.invariant.base ∙ c.requires.base) in
          let r = c.lines.invariant.reached first b in
          let goes = goes_on c.memory_is_never_told.ensures.lines b.before _ _ _ _ c.lines.keeper.base _ _ _ _ _ _ new.room (line_steps c.next.new.self.text) new.out.text took.0 same r steps took.1 in
          reached_line b.before _ _ _ _ _ _ _ _ _ _ _ _ _ c.next.new.self _ new.room new.out.text took.0 r (e.whole refl) (e.whole_line refl) (e.whole_kept refl) goes took.2 c.in_default-answer-2.ensures.ok;
      ready = ready_on took.0 _ _ _ _ c.lines.invariant.ready took.2;
      base = c.in_default-take.ensures.base ∙ c.lines.invariant.base;
      goes = e.over;
      limit = e.limit ∙ c.lines.invariant.limit;
      unfailed = e.unfailed (λ q. cc) ∙ c.lines.invariant.unfailed;
      output_later = omega (arith, c.in_default-answer-2.ensures.cause.later, c.lines.invariant.output_later);
      disk = c.in_default-take.ensures.cause.kept ∙ c.lines.invariant.disk;
    }

-- ---- a line that is too long

pub returns-in-Err-answer-3-clause-write_front : goal.returns-in-Err-answer-3-clause-write_front
returns-in-Err-answer-3-clause-write_front g c = λ _ first b.
    let e = rw c.in-Ok-TooLong.field-0-is at c.in-Ok-TooLong.ensures in
    let within : c.next.new.self.taken ≤ c.args.reader.now.limit = omega (arith, e.within (λ q. cc), e.limit, c.lines.invariant.limit) in
    let r = c.lines.invariant.reached first b in
    let goes = goes_long _ _ r.low c.lines.keeper.room c.refuse.new.out.text r.stands c.refuse.ensures in
    cut_long c.args.reader.now.limit first _ _ _ b _ _ _ _ _ _ _ _ r _ _ c.next.new.self c.refuse.new.out.text [] (e.long refl) (e.long_line refl) (e.long_skips refl) within goes
    (adds_none _ _) c.in-Err-answer-3.ensures.err

pub lines-preserved : goal.lines-preserved
lines-preserved g c =
    let e = rw c.in-Ok-TooLong.field-0-is at c.in-Ok-TooLong.ensures in
    record {
      reached = λ first b.
          let r = c.lines.invariant.reached first b in
          let goes = goes_long _ _ r.low c.lines.keeper.room c.refuse.new.out.text r.stands c.refuse.ensures in
          reached_long b.before _ _ _ _ _ _ _ _ _ _ _ c.next.new.self c.lines.keeper.room c.refuse.new.out.text [] r (e.long refl) (e.long_line refl) (e.long_skips refl) goes (adds_none _ _)
          c.in_default-answer-3.ensures.ok;
      ready = c.lines.invariant.ready;
      base = c.lines.invariant.base;
      goes = e.over;
      limit = e.limit ∙ c.lines.invariant.limit;
      unfailed = e.unfailed (λ q. cc) ∙ c.lines.invariant.unfailed;
      output_later = omega (arith, c.in_default-answer-3.ensures.cause.later, c.lines.invariant.output_later);
      disk = c.lines.invariant.disk;
    }
