use Rattle.std.proofs.Common.{take}
use Rattle.std.specs.List.{flat_map}
use Rattle.verilog_reader.specs.Constants.{fill_of, digit_width, digit_bits}
use Rattle.verilog_reader.specs.LastBits.{without_underscores, AreLastBits}
use Rattle.verilog_reader.proofs.constant.based_bits.Given as goal

abbrev pub invariant-loop-digit : goal.invariant-loop-digit
invariant-loop-digit l = AreLastBits (fill_of (without_underscores l.digits)) (flat_map (digit_bits (digit_width l.base)) (without_underscores (take l.digit-index l.digits))) l.last
