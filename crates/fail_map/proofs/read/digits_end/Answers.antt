use Rattle.std.proofs.Common.{arith, sym, ◌∙◌}
use Rattle.fail_map.proofs.Decimals.{digits_more}
use Rattle.fail_map.proofs.read.digits_end.Goals as goal

pub loop-end-preserved : goal.loop-end-preserved
loop-end-preserved c = record {
  behind = omega (arith, c.loop-end.invariant.behind);
  within = omega (arith, c.loop-end-test.true);
  digits = digits_more c.args.bytes.now c.args.at c.loop-end.end c.loop-end.invariant.behind c.loop-end-test.true c.loop-end.invariant.digits (sym c.is_ascii_digit.ensures.value ∙ c.if-is_ascii_digit.true);
}
