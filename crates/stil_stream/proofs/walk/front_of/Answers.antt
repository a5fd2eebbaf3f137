use Rattle.std.proofs.Common.{◌≡◌, ap, sym, ◌∙◌, arith}
use Rattle.stil_parts.specs.declared.gap.Gap.{Gap}
use Rattle.stil_parts.specs.declared.gap.Place.TheVariants.{Top}
use Rattle.stil_parts.specs.Gaps.{gap_at}
use Rattle.stil_parts.specs.Parts.{begin}
use Rattle.stil_parts.specs.Words.{word_shown}
use Rattle.stil_parts.specs.declared.word.Word.TheVariants.{Start}
use Rattle.stil_parts.proofs.Resumed.{resumed-reaches}
use Rattle.stil_stream.proofs.Fronts.{holds-some, holds-other, gap-front, opens-here, shown-here, shown-open}
use Rattle.stil_stream.proofs.walk.front_of.Goals as goal

pub returns-then-gap-gt0 : goal.returns-then-gap-gt0
returns-then-gap-gt0 c = record { value = gap-front c.args.comment c.args.bytes.now c.gap_at-gap.result c.gap_at-gap.ensures.value (omega (arith, c.if-gap-gt0.true)) }

pub returns-in-Found : goal.returns-in-Found
returns-in-Found c =
    let no_gap : (gap_at Top c.args.comment c.args.bytes.now).len ≡ 0 = omega (arith, c.if-gap-gt0.false, ap (λ (g : Gap). g.len) c.gap_at-gap.ensures.value) in
    record { value = opens-here c.args.comment c.args.bytes.now no_gap c.args.last c.args.done c.args.scan c.in-Found.found c.requires.resumes c.in-Found.ensures.value c.if-found.true }

pub returns-in-Reached : goal.returns-in-Reached
returns-in-Reached c =
    let no_gap : (gap_at Top c.args.comment c.args.bytes.now).len ≡ 0 = omega (arith, c.if-gap-gt0.false, ap (λ (g : Gap). g.len) c.gap_at-gap.ensures.value) in
    let r = resumed-reaches (begin Start) c.args.scan c.args.bytes.now c.args.done c.requires.resumes c.in-Reached.now c.in-Reached.ensures.value in
    let e = holds-some (word_shown c.args.last c.in-Reached.now.word) (sym c.if-shows_pattern.true ∙ c.shows_pattern.ensures) in
    record { value = shown-here c.args.comment c.args.bytes.now no_gap c.in-Reached.now r c.args.last e }

pub returns-in-Reached-2 : goal.returns-in-Reached-2
returns-in-Reached-2 c =
    let no_gap : (gap_at Top c.args.comment c.args.bytes.now).len ≡ 0 = omega (arith, c.if-gap-gt0.false, ap (λ (g : Gap). g.len) c.gap_at-gap.ensures.value) in
    let r = resumed-reaches (begin Start) c.args.scan c.args.bytes.now c.args.done c.requires.resumes c.in-Reached.now c.in-Reached.ensures.value in
    let differs = holds-other (word_shown c.args.last c.in-Reached.now.word) (sym c.if-shows_pattern.false ∙ c.shows_pattern.ensures) in
    record { value = (shown-open c.args.comment c.args.bytes.now no_gap c.in-Reached.now r c.args.last differs, r) }
