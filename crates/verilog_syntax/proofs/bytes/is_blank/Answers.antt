use Rattle.std.proofs.Common.{arith}
use Rattle.verilog_syntax.proofs.ByteKinds.{blank_at}
use Rattle.verilog_syntax.proofs.bytes.is_blank.Goals as goal

pub returns : goal.returns
returns c = record { value = rw c.from.ensures (blank_at c.args.b (omega arith)) }
