use Rattle.traced_paths.proofs.SharedLines.{marked_none, marked_at, marked_all}
use Rattle.traced_paths.proofs.shared.least_marked.Goals as goal

pub loop-step-init : goal.loop-step-init
loop-step-init c = marked_none c.args.netlist.now c.args.marks.now

pub loop-step-preserved : goal.loop-step-preserved
loop-step-preserved c =
    rw (c.lesser-least.ensures.value, c.line_if.ensures.value, c.is_marked.ensures.value, c.sink_line-line.ensures.value)
    (marked_at c.args.netlist.now c.args.marks.now c.args.steps.now c.loop-step.step-index _ c.loop-step.least c.loop-step-test.true c.loop-step.invariant)

pub returns : goal.returns
returns c = record { value = marked_all c.args.netlist.now c.args.marks.now c.args.steps.now c.loop-step.step-index c.loop-step.least c.loop-step-test.false c.loop-step.invariant }
