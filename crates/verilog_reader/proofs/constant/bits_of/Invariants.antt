use Rattle.std.proofs.Common.{◌≡◌, ◌-◌, ◌/◌, ◌^◌, ◌≤◌}
use Rattle.verilog_reader.specs.LastBits.{masked_bits}
use Rattle.verilog_reader.proofs.constant.bits_of.Given as goal

abbrev pub invariant-loop-place : goal.invariant-loop-place
invariant-loop-place l = record {
  within : l.place ≤ l.size;
  pushed : l.bits.items ≡ masked_bits (l.size - l.place) (l.last.ones / 2 ^ l.place) (l.last.unknown / 2 ^ l.place);
}
