use Rattle.design_places.specs.Lines.{StepLacks}
use Rattle.design_places.proofs.ForOnes.{one_at, one_all}
use Rattle.design_places.proofs.nets.Traced.steps.Goals as goal

pub loop-step-preserved : goal.loop-step-preserved
loop-step-preserved c =
    rw c.lesser-least.ensures.value (one_at (StepLacks c.args.self.now) c.args.steps.now c.loop-step.step-index _ c.loop-step.least _ c.loop-step-test.true c.loop-step.invariant c.step.ensures.value)

pub returns : goal.returns
returns c = record { value = one_all (StepLacks c.args.self.now) c.args.steps.now c.loop-step.step-index c.loop-step.least c.loop-step-test.false c.loop-step.invariant }
