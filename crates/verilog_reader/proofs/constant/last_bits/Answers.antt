use Rattle.std.proofs.Common.{◌∙◌}
use Rattle.verilog_names.specs.Values.{decimal_value}
use Rattle.verilog_reader.specs.LastBits.{without_underscores}
use Rattle.verilog_reader.proofs.LastBits.{masked_bits-mod_at, masked_bits-known}
use Rattle.verilog_reader.proofs.constant.last_bits.Goals as goal

pub returns-then-is_decimal_base : goal.returns-then-is_decimal_base
returns-then-is_decimal_base c = record {
  value = λ n within.
      let v = decimal_value (without_underscores c.args.digits.now) in
      rw (c.decimal_bits.ensures.value, ← c.if-is_decimal_base.ensures.value) (masked_bits-mod_at 128 n v 0 within ∙ masked_bits-known n v);
}
