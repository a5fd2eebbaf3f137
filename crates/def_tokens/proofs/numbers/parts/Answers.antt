use Rattle.std.proofs.Common.{◌∙◌}
use Rattle.def_tokens.proofs.DigitValues.{behind_point, no_point, fraction_is}
use Rattle.def_tokens.proofs.numbers.parts.Goals as goal

pub returns-in-empty-clause-fraction : goal.returns-in-empty-clause-fraction
returns-in-empty-clause-fraction c =
    no_point c.unsigned-digits.result.now c.split_at.result.1.now c.point_at.result c.split_at.ensures.back c.in-empty.len_below
    ∙ fraction_is c.args.bytes.now c.unsigned-digits.result.now c.point_at.result c.unsigned-digits.ensures.value c.point_at.ensures.value

pub returns-in-len1-up-clause-fraction : goal.returns-in-len1-up-clause-fraction
returns-in-len1-up-clause-fraction c =
    behind_point c.unsigned-digits.result.now c.split_at.result.1.now c.point_at.result c.split_at.ensures.back
    ∙ fraction_is c.args.bytes.now c.unsigned-digits.result.now c.point_at.result c.unsigned-digits.ensures.value c.point_at.ensures.value
