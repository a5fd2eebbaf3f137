use Rattle.std.proofs.Common.{arith}
use Rattle.verilog_syntax.proofs.ByteKinds.{digit_at}
use Rattle.verilog_syntax.proofs.bytes.is_digit.Goals as goal

pub returns : goal.returns
returns c = record { value = rw c.from.ensures (digit_at c.args.b (omega arith)) }
