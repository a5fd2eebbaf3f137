use Rattle.std.proofs.Common.{length, refl, ap, ◌∙◌}
use Rattle.std.proofs.lemmas.List.Folds.{length-prefix_len}
use Rattle.verilog_syntax.specs.VerilogTokens.{is_digit}
use Rattle.verilog_reader.proofs.LastBits.{behind_two}
use Rattle.verilog_reader.proofs.constant.base_and_digits.Goals as goal

pub returns-in-len2-up-clause-digits : goal.returns-in-len2-up-clause-digits
returns-in-len2-up-clause-digits c =
    rw (behind_two (length c.size_digits.result.now) c.args.text.now, ap length c.size_digits.ensures.value ∙ length-prefix_len is_digit c.args.text.now) refl
