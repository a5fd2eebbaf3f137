use Rattle.std.proofs.Common.{arith, ◌+◌}
use Rattle.fail_map.proofs.Decimals.{value_more, value_least, digit_at}
use Rattle.fail_map.proofs.read.value_of.Goals as goal

pub returns-then-value-clause-value : goal.returns-then-value-clause-value
returns-then-value-clause-value c =
    let i = c.loop-digit.digit-index in
    omega (arith, c.loop-digit.invariant.value, c.if-value.true, value_more c.args.digits.now i c.loop-digit-test.true, value_least c.args.digits.now (i + 1))

pub overflow_sub-value : goal.overflow_sub-value
overflow_sub-value c = (digit_at c.args.digits.now c.loop-digit.digit-index c.requires.digits c.loop-digit-test.true).0

pub returns-then-value-gt-MOST-clause-value : goal.returns-then-value-gt-MOST-clause-value
returns-then-value-gt-MOST-clause-value c =
    let i = c.loop-digit.digit-index in
    omega (arith, c.loop-digit.invariant.value, c.if-value-gt-MOST.true, value_more c.args.digits.now i c.loop-digit-test.true, value_least c.args.digits.now (i + 1))

pub loop-digit-preserved : goal.loop-digit-preserved
loop-digit-preserved c =
    let i = c.loop-digit.digit-index in
    record { value = omega (arith, c.loop-digit.invariant.value, value_more c.args.digits.now i c.loop-digit-test.true); small = omega (arith, c.if-value-gt-MOST.false) }
