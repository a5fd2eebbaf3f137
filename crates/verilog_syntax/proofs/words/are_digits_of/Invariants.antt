use Rattle.std.proofs.Common.{◌≡◌, drop}
use Rattle.verilog_syntax.specs.VerilogSplit.{are_digits_of}
use Rattle.verilog_syntax.proofs.Digits.{rest_of}
use Rattle.verilog_syntax.proofs.words.are_digits_of.Given as goal

abbrev pub invariant-loop-digit : goal.invariant-loop-digit
invariant-loop-digit l = rest_of l.base l.ended (drop l.digit-index l.digits) ≡ are_digits_of l.base l.digits
