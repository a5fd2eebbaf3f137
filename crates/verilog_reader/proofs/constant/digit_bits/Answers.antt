use Rattle.std.proofs.Common.{rules}
use Rattle.verilog_reader.specs.Constants.{digit_width}
use Rattle.verilog_reader.proofs.LastBits.{known_digit, unknown_digit}
use Rattle.verilog_reader.proofs.constant.digit_bits.Goals as goal

pub returns-then-is_unknown-clause-value : goal.returns-then-is_unknown-clause-value
returns-then-is_unknown-clause-value c = rw c.radix_of-radix.ensures.value (unknown_digit (digit_width c.args.base) c.args.digit (search rules))

pub returns-else-is_unknown-clause-value : goal.returns-else-is_unknown-clause-value
returns-else-is_unknown-clause-value c = rw (c.radix_of-radix.ensures.value, c.from.ensures, c.digit_value.ensures.value) (known_digit (digit_width c.args.base) c.args.digit (search rules))
