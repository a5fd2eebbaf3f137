use Rattle.std.proofs.Common.{◌≡◌, ◌%◌, ◌^◌, take}
use Rattle.verilog_names.specs.Values.{decimal_value}
use Rattle.verilog_reader.specs.LastBits.{without_underscores}
use Rattle.verilog_reader.proofs.constant.decimal_bits.Given as goal

abbrev pub invariant-loop-digit : goal.invariant-loop-digit
invariant-loop-digit l = l.value ≡ decimal_value (without_underscores (take l.digit-index l.digits)) % 2 ^ 128
