use Rattle.std.proofs.Common.{List, ◌++◌, subst}
use Rattle.std.proofs.lemmas.List.{take_all}
use Rattle.chain_trace.specs.declared.path.Step.{Step}
use Rattle.chain_trace.specs.Drivers.{AreMarks}
use Rattle.traced_paths.proofs.SharedLines.{marks_next}
use Rattle.traced_paths.proofs.shared.mark_all.Goals as goal

pub loop-step-preserved : goal.loop-step-preserved
loop-step-preserved c before are =
    marks_next before c.args.steps.now c.loop-step.step-index _ c.loop-step.marks c.insert.new.self c.loop-step-test.true c.in_ok-insert.ensures.updates.0 (c.loop-step.invariant before are)

pub returns : goal.returns
returns c = record {
  value = λ before are.
      subst (λ (l : List Step). AreMarks (before ++ l) c.loop-step.marks) (take_all c.loop-step.step-index c.args.steps.now c.loop-step-test.false) (c.loop-step.invariant before are);
}
