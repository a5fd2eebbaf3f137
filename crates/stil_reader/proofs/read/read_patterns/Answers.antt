use Rattle.std.proofs.Common.{Option, arith, subst}
use Rattle.stil_parts.specs.declared.gap.Point.{Point}
use Rattle.stil_reader.specs.declared.step.Step.{Step}
use Rattle.stil_reader.specs.Reading.{IsNext}
use Rattle.stil_reader.proofs.SoFar.{so-far-on, so-far-done}
use Rattle.stil_reader.proofs.read.read_patterns.Goals as goal

pub next-requires-clause-size : goal.next-requires-clause-size
next-requires-clause-size c = omega (arith, c.loop-reading.invariant.within, c.requires.size)

pub loop-reading-preserved : goal.loop-reading-preserved
loop-reading-preserved c =
    let r = c.loop-reading.reading in
    let rest = c.loop-reading.rest.now in
    let next = subst (λ (p : Point). IsNext c.args.judging c.args.head p rest c.in_ok-step.field-0) c.point.ensures.value c.in_ok-step.ensures.value in
    let steps = subst (λ (o : Option Step). IsNext c.args.judging c.args.head r.point rest o) c.in-Some.is next in
    so-far-on c.args.judging c.args.head c.args.bytes.now r rest c.loop-reading.invariant c.in-Some.step steps c.split_at-in-Some.result.0.now c.split_at-in-Some.result.1.now c.add.new.self
    c.split_at-in-Some.ensures.front c.split_at-in-Some.ensures.back c.in_ok-add.ensures.value

pub returns-clause-value : goal.returns-clause-value
returns-clause-value c =
    let r = c.loop-reading.reading in
    let rest = c.loop-reading.rest.now in
    let next = subst (λ (p : Point). IsNext c.args.judging c.args.head p rest c.in_ok-step.field-0) c.point.ensures.value c.in_ok-step.ensures.value in
    let done = subst (λ (o : Option Step). IsNext c.args.judging c.args.head r.point rest o) c.in_default.is next in
    so-far-done c.args.judging c.args.head c.args.bytes.now r rest c.loop-reading.invariant done c.in_ok-finish.field-0 c.in_ok-finish.ensures.value
