use Rattle.std.proofs.Common.{◌≡◌, decimal, sym, ap, ◌∙◌, arith}
use Rattle.std.proofs.lemmas.Fmt.{parse-decimal}
use Rattle.scan_job.proofs.copying.number_of.Goals as goal

pub returns : goal.returns
returns c =
    let few = c.requires.said.1 in
    let parsed = parse-decimal 32 c.requires.said.0 c.as_str.result.now c.parse.result (omega (arith, few)) (omega (arith, few)) (c.as_str.ensures.value ∙ c.requires.said.2) c.parse.ensures.value.0 in
    let both = sym c.in-Ok.is ∙ parsed in
    let same : c.in-Ok.number ≡ c.requires.said.0 = cc in
    record { value = c.requires.said.2 ∙ ap decimal (sym same) }

pub unreachable-requires : goal.unreachable-requires
unreachable-requires c =
    let few = c.requires.said.1 in
    let parsed = parse-decimal 32 c.requires.said.0 c.as_str.result.now c.parse.result (omega (arith, few)) (omega (arith, few)) (c.as_str.ensures.value ∙ c.requires.said.2) c.parse.ensures.value.0 in
    let refused = sym c.in-Err.is ∙ parsed in
    absurd cc
