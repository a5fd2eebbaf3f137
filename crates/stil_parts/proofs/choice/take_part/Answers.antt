use Rattle.std.proofs.Common.{◌≤◌, ◌+◌, ◌<◌, ◌≡◌, length, take, arith, sym, ap, ◌∙◌, ℕ, List}
use Rattle.stil_parts.specs.Parts.{part_len}
use Rattle.stil_parts.specs.Coming.{largest, most, point_behind}
use Rattle.stil_parts.proofs.Choices.{part-large, part-total, is-part}
use Rattle.stil_parts.proofs.choice.take_part.Goals as goal

pub returns-then-len-gt-LARGEST : goal.returns-then-len-gt-LARGEST
returns-then-len-gt-LARGEST c =
    let large : largest < part_len c.args.part = omega (arith, c.if-len-gt-LARGEST.true, c.part_len-len.ensures.value) in
    record { value = λ judge. rw c.stop.ensures (part-large judge c.args.last c.args.point c.args.bytes.now c.requires.no_gap c.args.part c.requires.is c.requires.within large) }

pub returns-then-len-point : goal.returns-then-len-point
returns-then-len-point c =
    let small : part_len c.args.part ≤ largest = omega (arith, c.if-len-gt-LARGEST.false, c.part_len-len.ensures.value) in
    let over : most < c.args.point.given + part_len c.args.part = omega (arith, c.if-len-point.true, c.part_len-len.ensures.value) in
    record { value = λ judge. rw c.stop-then-len-point.ensures (part-total judge c.args.last c.args.point c.args.bytes.now c.requires.no_gap c.args.part c.requires.is c.requires.within small over) }

pub returns : goal.returns
returns c =
    let small : part_len c.args.part ≤ largest = omega (arith, c.if-len-gt-LARGEST.false, c.part_len-len.ensures.value) in
    let fits : c.args.point.given + part_len c.args.part ≤ most = omega (arith, c.if-len-point.false, c.requires.early.given, c.part_len-len.ensures.value) in
    let is = c.point_behind.ensures.value ∙ ap (λ (n : ℕ). point_behind c.args.point c.args.part (take n c.args.bytes.now)) c.part_len-len.ensures.value in
    record {
      value = λ judge. is-part judge c.args.last c.args.point c.args.bytes.now c.requires.no_gap c.args.part c.requires.is c.requires.within small fits
          c.point_behind.result is c.point_behind.ensures.early;
    }
