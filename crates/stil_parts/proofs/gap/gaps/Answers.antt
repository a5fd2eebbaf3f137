use Rattle.std.proofs.Common.{◌+◌, ◌<◌, ◌≤◌, length, arith, ◌∙◌, ap}
use Rattle.std.proofs.lemmas.List.{take_rest}
use Rattle.stil_parts.specs.Gaps.{gap_at}
use Rattle.stil_parts.proofs.GapLemmas.{gap-more, gap_comes}
use Rattle.stil_parts.proofs.gap.gaps.Goals as goal

pub loop-at-init : goal.loop-at-init
loop-at-init c = record {
  some = c.requires.some;
  within = c.requires.within;
  fits = c.requires.fits;
  comes = λ judge more. gap_comes judge c.args.point c.args.bytes.now more c.args.first c.requires.shown c.requires.some c.requires.within c.requires.fits;
}

pub loop-at-preserved : goal.loop-at-preserved
loop-at-preserved c =
    let at = c.loop-at.at in
    let bytes = c.args.bytes.now in
    let g = c.gap_at-gap.result in
    let is = c.gap_at-gap.ensures.value ∙ ap (gap_at c.loop-at.place c.loop-at.comment) (take_rest bytes at) in
    let some : 0 < g.len = omega arith in
    let within : at + g.len ≤ length bytes = omega (arith, c.gap_at-gap.ensures.within) in
    record {
      some = omega (arith, c.loop-at.invariant.some);
      within = within;
      fits = omega (arith, c.if-at-gap.false, c.loop-at.invariant.fits, c.requires.early.given);
      comes = gap-more c.args.point bytes at c.loop-at.place c.loop-at.comment g is some within (omega (arith, c.if-at-gap.false, c.requires.early.given)) c.loop-at.invariant.comes;
    }
