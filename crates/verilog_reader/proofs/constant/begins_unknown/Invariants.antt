use Rattle.std.proofs.Common.{◌≡◌, drop}
use Rattle.verilog_reader.specs.Constants.{fill_of}
use Rattle.verilog_reader.specs.LastBits.{without_underscores}
use Rattle.verilog_reader.proofs.constant.begins_unknown.Given as goal

abbrev pub invariant-loop-digit : goal.invariant-loop-digit
invariant-loop-digit l = fill_of (without_underscores (drop l.digit-index l.digits)) ≡ fill_of (without_underscores l.digits)
