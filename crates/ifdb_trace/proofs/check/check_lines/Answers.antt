use Rattle.std.proofs.Common.{◌≡◌, ◌≤◌, ◌+◌, refl, sym, ap, subst, ◌∙◌, arith, true≢false}
use Rattle.std.specs.Prelude.{Result, Ok, Err, is_ok}
use Rattle.ifdb_io.specs.Lines.{Reading}
use Rattle.ifdb_trace.specs.Checking.{behind}
use Rattle.ifdb_trace.specs.Checked.{CheckedWrong}
use Rattle.ifdb_trace.specs.Stages.{IsEndOf}
use Rattle.ifdb_db.specs.Reading.{read_line}
use Rattle.ifdb_trace.proofs.Judging.{Judged, judged_none, judged_few, judged_line, wrong_line, wrong_long, end_accepted, end_refused, rest_wrong, rest_accepted, rest_refused, past_at, refused_is}
use Rattle.ifdb_trace.proofs.check.check_lines.Goals as goal

not_err : {A E : Type 0} (x : A) (e : E) → Ok x ≡ Err e → ⊥
not_err x e same = true≢false (ap (λ (r : Result _ _). is_ok r) same)

pub lines-init : goal.lines-init
lines-init g c =
    let left = g.R.Source.left c.args.input.now in
    let none = judged_none left c.args.reader.now.limit c.args.checker.now c.requires.first in
    record {
      judged = subst (λ reader. Judged left left reader c.args.checker.now 0) (sym c.requires.fresh) none;
      goes = ap (λ (reader : Reading). reader.over) c.requires.fresh;
      limit = refl;
      few = omega arith;
      within = omega (arith, ap (λ (reader : Reading). reader.taken) c.requires.fresh);
      later = omega arith;
      unfailed = refl;
    }

pub returns-in-Err-TooMuch-clause-too_large : goal.returns-in-Err-TooMuch-clause-too_large
returns-in-Err-TooMuch-clause-too_large g c = λ _.
    let e = rw c.in-Err-TooMuch.field-0-is at c.in-Err-TooMuch.ensures in
    past_at c.args.reader.now.limit _ _ _ c.lines.reader c.next.new.self c.lines.checker c.lines.count c.lines.invariant.judged (e.much refl)
    (e.limit ∙ c.lines.invariant.limit)

pub returns-in-Ok-TooLong-clause-refused : goal.returns-in-Ok-TooLong-clause-refused
returns-in-Ok-TooLong-clause-refused g c = λ k same.
    let e = rw c.in-Ok-TooLong.field-0-is at c.in-Ok-TooLong.ensures in
    let within : c.next.new.self.taken ≤ c.args.reader.now.limit = omega (arith, e.within (λ q. cc), e.limit, c.lines.invariant.limit) in
    subst (CheckedWrong c.args.reader.now.limit _ _) (refused_is (c.lines.count + 1) k same)
    (wrong_long c.args.reader.now.limit _ _ _ c.lines.reader c.next.new.self c.lines.checker c.lines.count c.lines.invariant.judged (e.long refl) (e.long_line refl) within)

pub returns-in-Ok-End-clause-accepted : goal.returns-in-Ok-End-clause-accepted
returns-in-Ok-End-clause-accepted g c = λ same.
    let e = rw c.in-Ok-End.field-0-is at c.in-Ok-End.ensures in
    let within : c.next.new.self.taken ≤ c.args.reader.now.limit = omega (arith, e.within (λ q. cc), e.limit, c.lines.invariant.limit) in
    let j = c.lines.invariant.judged in
    end_accepted c.args.reader.now.limit _ _ _ c.lines.reader c.next.new.self c.lines.checker c.lines.count j (e.end refl) (e.end_last refl) within (e.end_none refl)
    (subst (λ end. IsEndOf end c.lines.count j.all) same (c.end_after.ensures j.all j.at))

pub returns-in-Ok-End-clause-refused : goal.returns-in-Ok-End-clause-refused
returns-in-Ok-End-clause-refused g c = λ k same.
    let e = rw c.in-Ok-End.field-0-is at c.in-Ok-End.ensures in
    let within : c.next.new.self.taken ≤ c.args.reader.now.limit = omega (arith, e.within (λ q. cc), e.limit, c.lines.invariant.limit) in
    let j = c.lines.invariant.judged in
    end_refused c.args.reader.now.limit _ _ _ c.lines.reader c.next.new.self c.lines.checker c.lines.count j (e.end refl) (e.end_last refl) within (e.end_none refl) k
    (subst (λ end. IsEndOf end c.lines.count j.all) same (c.end_after.ensures j.all j.at))

pub returns-in-Ok-End-clause-read : goal.returns-in-Ok-End-clause-read
returns-in-Ok-End-clause-read g c = λ same.
    let j = c.lines.invariant.judged in absurd (subst (λ end. IsEndOf end c.lines.count j.all) same (c.end_after.ensures j.all j.at))

pub returns-in-Ok-End-clause-too_large : goal.returns-in-Ok-End-clause-too_large
returns-in-Ok-End-clause-too_large g c = λ same.
    let j = c.lines.invariant.judged in absurd (subst (λ end. IsEndOf end c.lines.count j.all) same (c.end_after.ensures j.all j.at))

pub returns-in-Ok-clause-accepted : goal.returns-in-Ok-clause-accepted
returns-in-Ok-clause-accepted g c = λ same.
    let e = rw c.in-Ok-Rest.field-0-is at c.in-Ok-Rest.ensures in
    let within : c.next.new.self.taken ≤ c.args.reader.now.limit = omega (arith, e.within (λ q. cc), e.limit, c.lines.invariant.limit) in
    let j = c.lines.invariant.judged in
    let on = rw c.text.ensures at c.in-Ok.ensures.on in
    rest_accepted c.args.reader.now.limit _ _ _ c.lines.reader c.next.new.self c.lines.checker c.lines.count j (e.rest refl) (e.rest_last refl) within (e.rest_some refl)
    (subst (λ end. IsEndOf end (c.lines.count + 1) (behind read_line c.next.new.self.text j.all)) same (c.end_after-in-Ok.ensures (behind read_line c.next.new.self.text j.all) (on j.all j.at)))

pub returns-in-Ok-clause-refused : goal.returns-in-Ok-clause-refused
returns-in-Ok-clause-refused g c = λ k same.
    let e = rw c.in-Ok-Rest.field-0-is at c.in-Ok-Rest.ensures in
    let within : c.next.new.self.taken ≤ c.args.reader.now.limit = omega (arith, e.within (λ q. cc), e.limit, c.lines.invariant.limit) in
    let j = c.lines.invariant.judged in
    let on = rw c.text.ensures at c.in-Ok.ensures.on in
    rest_refused c.args.reader.now.limit _ _ _ c.lines.reader c.next.new.self c.lines.checker c.lines.count j (e.rest refl) (e.rest_last refl) within (e.rest_some refl) k
    (subst (λ end. IsEndOf end (c.lines.count + 1) (behind read_line c.next.new.self.text j.all)) same (c.end_after-in-Ok.ensures (behind read_line c.next.new.self.text j.all) (on j.all j.at)))

pub returns-in-Ok-clause-read : goal.returns-in-Ok-clause-read
returns-in-Ok-clause-read g c = λ same.
    let j = c.lines.invariant.judged in
    let on = rw c.text.ensures at c.in-Ok.ensures.on in
    absurd (subst (λ end. IsEndOf end (c.lines.count + 1) (behind read_line c.next.new.self.text j.all)) same (c.end_after-in-Ok.ensures (behind read_line c.next.new.self.text j.all) (on j.all j.at)))

pub returns-in-Ok-clause-too_large : goal.returns-in-Ok-clause-too_large
returns-in-Ok-clause-too_large g c = λ same.
    let j = c.lines.invariant.judged in
    let on = rw c.text.ensures at c.in-Ok.ensures.on in
    absurd (subst (λ end. IsEndOf end (c.lines.count + 1) (behind read_line c.next.new.self.text j.all)) same (c.end_after-in-Ok.ensures (behind read_line c.next.new.self.text j.all) (on j.all j.at)))

pub returns-in-Err-Wrong-clause-refused : goal.returns-in-Err-Wrong-clause-refused
returns-in-Err-Wrong-clause-refused g c = λ k same.
    let e = rw c.in-Ok-Rest.field-0-is at c.in-Ok-Rest.ensures in
    let within : c.next.new.self.taken ≤ c.args.reader.now.limit = omega (arith, e.within (λ q. cc), e.limit, c.lines.invariant.limit) in
    let f = rw c.in-Err-Wrong.field-0-is at c.in-Err-Wrong.ensures in
    let wrong = rw c.text.ensures at f.wrong refl in
    subst (CheckedWrong c.args.reader.now.limit _ _) (refused_is (c.lines.count + 1) k same)
    (rest_wrong c.args.reader.now.limit _ _ _ c.lines.reader c.next.new.self c.lines.checker c.lines.count c.lines.invariant.judged (e.rest refl) (e.rest_last refl) within (e.rest_some refl) wrong)

pub lines-preserved : goal.lines-preserved
lines-preserved g c =
    let e = rw c.in-Ok-Whole.field-0-is at c.in-Ok-Whole.ensures in
    let on = rw c.text-in-Ok-Whole.ensures at c.in-Ok-take.ensures.on in
    let within : c.next.new.self.taken ≤ c.args.reader.now.limit = omega (arith, e.within (λ q. cc), e.limit, c.lines.invariant.limit) in
    let judged = judged_line c.args.reader.now.limit _ _ _ c.lines.reader c.next.new.self c.lines.checker c.lines.count c.lines.invariant.judged
    (e.whole refl) (e.whole_line refl) (e.whole_kept refl) c.take-in-Ok-Whole.new.self on in
    let few = judged_few _ _ c.next.new.self c.take-in-Ok-Whole.new.self (c.lines.count + 1) judged in
    record {
      judged = judged;
      goes = e.over;
      limit = e.limit ∙ c.lines.invariant.limit;
      few = omega (arith, few, within);
      within = within;
      later = omega (arith, e.later, c.lines.invariant.later);
      unfailed = e.unfailed (not_err _ _) ∙ c.lines.invariant.unfailed;
    }

pub returns-in-Err-Wrong-take-clause-refused : goal.returns-in-Err-Wrong-take-clause-refused
returns-in-Err-Wrong-take-clause-refused g c = λ k same.
    let e = rw c.in-Ok-Whole.field-0-is at c.in-Ok-Whole.ensures in
    let within : c.next.new.self.taken ≤ c.args.reader.now.limit = omega (arith, e.within (λ q. cc), e.limit, c.lines.invariant.limit) in
    let f = rw c.in-Err-Wrong-take.field-0-is at c.in-Err-Wrong-take.ensures in
    let wrong = rw c.text-in-Ok-Whole.ensures at f.wrong refl in
    subst (CheckedWrong c.args.reader.now.limit _ _) (refused_is (c.lines.count + 1) k same)
    (wrong_line c.args.reader.now.limit _ _ _ c.lines.reader c.next.new.self c.lines.checker c.lines.count c.lines.invariant.judged
    (e.whole refl) (e.whole_line refl) (e.whole_kept refl) wrong within)
