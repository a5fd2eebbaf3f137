use Rattle.std.proofs.Common.{◌*◌, ◌^◌}
use Rattle.verilog_reader.specs.Constants.{digit_width}
use Rattle.verilog_reader.proofs.LastBits.{shows_digit, shows_wrapped}
use Rattle.verilog_reader.proofs.constant.with_digit.Goals as goal

pub returns : goal.returns
returns c = record {
  value = λ fill bits before. record {
    each =
        let w = digit_width c.args.base in
        let last = c.args.last in
        let added = c.digit_bits-added in
        rw (c.radix_of-radix.ensures.value, ← added.ensures.value)
        (shows_wrapped fill _ (last.ones * 2 ^ w) (last.unknown * 2 ^ w) added.result.ones added.result.unknown
        (shows_digit w fill bits last.ones last.unknown added.result.ones added.result.unknown added.ensures.ones added.ensures.unknown before.each));
  };
}
