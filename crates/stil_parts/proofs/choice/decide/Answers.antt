use Rattle.std.proofs.Common.{◌<◌, ◌+◌, arith}
use Rattle.stil_parts.specs.Coming.{most}
use Rattle.stil_parts.proofs.Choices.{gap-total, gap-takes, taken-at}
use Rattle.stil_parts.proofs.choice.decide.Goals as goal

pub returns-then-first-point : goal.returns-then-first-point
returns-then-first-point c =
    let some : 0 < c.gap_at-first.result.len = omega (arith, c.if-first-eq0.false) in
    let over : most < c.args.point.given + c.gap_at-first.result.len = omega (arith, c.if-first-point.true) in
    record { value = λ judge. rw c.stop.ensures (gap-total judge c.args.last c.args.point c.args.bytes.now c.gap_at-first.result c.gap_at-first.ensures.value some over) }

pub returns : goal.returns
returns c =
    let some : 0 < c.gap_at-first.result.len = omega (arith, c.if-first-eq0.false) in
    let g = c.gaps-gap.result in
    let early = rw c.moved-next.ensures.value at c.moved-next.ensures.early in
    record {
      value = λ judge. taken-at judge _ _ _ _ _ _ _ c.moved-next.ensures.value (gap-takes judge c.args.last c.args.point c.args.bytes.now c.gap_at-first.result g.len g.place g.comment
          c.gap_at-first.ensures.value some c.gaps-gap.ensures.some c.gaps-gap.ensures.within c.gaps-gap.ensures.comes early);
    }
