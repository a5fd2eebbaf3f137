use Rattle.std.proofs.Common.{arith}
use Rattle.verilog_syntax.proofs.ByteKinds.{start_at}
use Rattle.verilog_syntax.proofs.bytes.is_word_start.Goals as goal

pub returns : goal.returns
returns c = record { value = rw c.from.ensures (start_at c.args.b (omega arith)) }
