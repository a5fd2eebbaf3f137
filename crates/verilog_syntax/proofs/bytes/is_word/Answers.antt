use Rattle.std.proofs.Common.{arith}
use Rattle.verilog_syntax.proofs.ByteKinds.{word_at}
use Rattle.verilog_syntax.proofs.bytes.is_word.Goals as goal

pub returns : goal.returns
returns c = record { value = rw c.from.ensures (word_at c.args.b (omega arith)) }
