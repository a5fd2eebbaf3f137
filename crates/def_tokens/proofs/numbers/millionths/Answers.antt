use Rattle.std.proofs.Common.{◌≡◌, ◌^◌, ◌-◌, length, arith, ◌∙◌, refl, rules}
use Rattle.std.specs.Str.Parse.{digits_value}
use Rattle.def_tokens.proofs.DigitValues.{six_digits}
use Rattle.def_tokens.proofs.numbers.millionths.Goals as goal

pub returns : goal.returns
returns c =
    let small = six_digits c.args.fraction.now c.requires.fraction c.requires.short in
    let scale : c.pow-scale.result ≡ 10 ^ (6 - length c.args.fraction.now) = search rules in
    let whole = c.from.ensures ∙ c.digits_value.ensures.value in
    let fraction : c.from-2.result ≡ digits_value 10 c.args.fraction.now = omega arith in
    record { value = rw (whole, fraction, scale) refl }
