use Rattle.std.proofs.Common.{arith, ◌<◌, get_or, sym}
use Rattle.std.proofs.lemmas.Int.Digits.{digits_value_more}
use Rattle.std.proofs.lemmas.Str.{digit_value_digit}
use Rattle.ifdb_wire.proofs.Digits.{small, power, all_more}
use Rattle.ifdb_wire.proofs.script.value.Goals as goal

pub overflow_mul-value : goal.overflow_mul-value
overflow_mul-value c = let s = small c.loop-digit.value c.loop-digit.digit-index 17 c.loop-digit.invariant.small (omega arith) in omega arith

pub overflow_add-value : goal.overflow_add-value
overflow_add-value c = let s = small c.loop-digit.value c.loop-digit.digit-index 17 c.loop-digit.invariant.small (omega arith) in omega arith

pub loop-digit-preserved : goal.loop-digit-preserved
loop-digit-preserved c =
    let e = c.if-not-is_ascii_digit.ensures in
    let more = digits_value_more 10 c.args.digits.now c.loop-digit.digit-index c.loop-digit-test.true in
    let digit = digit_value_digit (get_or c.args.digits.now c.loop-digit.digit-index 0) e.cases in
    let range = e.cases in
    let small : c.from.result < 10 = omega (arith, e.bound, digit) in
    record {
      value = omega (arith, more, digit, c.loop-digit.invariant.value);
      digits = all_more _ _ c.loop-digit-test.true c.loop-digit.invariant.digits (sym e.value);
      small = power _ _ _ c.loop-digit.invariant.small small;
    }

pub returns-clause-small : goal.returns-clause-small
returns-clause-small c = small c.loop-digit.value c.loop-digit.digit-index 18 c.loop-digit.invariant.small (omega arith)
