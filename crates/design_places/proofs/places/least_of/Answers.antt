use Rattle.design_places.specs.Lines.{IsNowhere}
use Rattle.design_places.proofs.ForOnes.{one_at, one_all}
use Rattle.design_places.proofs.places.least_of.Goals as goal

pub loop-step-preserved : goal.loop-step-preserved
loop-step-preserved c =
    rw c.lesser-least.ensures.value
    (one_at (IsNowhere c.args.netlist.now c.args.components.now.0 c.args.components.now.1) c.args.steps.now c.loop-step.step-index _ c.loop-step.least _ c.loop-step-test.true c.loop-step.invariant c.line_of.ensures.value)

pub returns : goal.returns
returns c = record {
  value = one_all (IsNowhere c.args.netlist.now c.args.components.now.0 c.args.components.now.1) c.args.steps.now c.loop-step.step-index c.loop-step.least c.loop-step-test.false c.loop-step.invariant;
}
