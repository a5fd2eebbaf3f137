use Rattle.def_tokens.proofs.DigitValues.{one_more}
use Rattle.std.proofs.Common.{arith}
use Rattle.def_tokens.proofs.numbers.digits_value.Goals as goal

pub loop-digit-preserved : goal.loop-digit-preserved
loop-digit-preserved c =
    one_more c.args.digits.now c.loop-digit.digit-index 18446744073709551615 c.loop-digit.value c.saturating_mul.result c.from.result c.saturating_add-value.result
    c.loop-digit-test.true c.requires.digits (omega arith) c.loop-digit.invariant c.saturating_mul.ensures c.from.ensures c.saturating_add-value.ensures
