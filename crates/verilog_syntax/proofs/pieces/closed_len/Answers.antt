use Rattle.std.proofs.Common.{arith, length-drop, drop}
use Rattle.verilog_syntax.proofs.VerilogPieces.{closed_len-short}
use Rattle.verilog_syntax.proofs.pieces.closed_len.Goals as goal

pub returns-clause-value : goal.returns-clause-value
returns-clause-value c =
    let rest = length-drop c.loop-n.n c.args.bytes.now in
    omega (arith, closed_len-short c.args.closing (drop c.loop-n.n c.args.bytes.now) (omega arith))
