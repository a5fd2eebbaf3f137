use Rattle.std.proofs.Common.{rules}
use Rattle.verilog_names.proofs.Indexes.{too_great}
use Rattle.verilog_names.proofs.values.value_within.Goals as goal

pub returns-then-value-limit-clause-value : goal.returns-then-value-limit-clause-value
returns-then-value-limit-clause-value c = too_great c.args.limit c.args.digits.now c.loop-digit.digit-index c.loop-digit.value _ (search rules) c.loop-digit.invariant.same (search rules) c.if-value-limit.true
