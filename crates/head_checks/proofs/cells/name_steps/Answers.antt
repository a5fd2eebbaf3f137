use Rattle.std.proofs.Common.{arith}
use Rattle.head_checks.proofs.Named.{too_few, one_more, not_here, all_here, none_left}
use Rattle.head_checks.proofs.cells.name_steps.Goals as goal

pub returns-then-names-at : goal.returns-then-names-at
returns-then-names-at c = record {
  value =
      too_few c.args.netlist.now c.args.table.now c.args.steps.now c.loop-step.step-index _ c.loop-step-test.true c.args.netlist.now.«module» c.loop-step.at c.args.names.now c.step_bits-count.result _
      c.loop-step.invariant.within c.step_bits-count.ensures.value c.if-names-at.true c.loop-step.invariant.same;
}

pub returns-then-not-branch : goal.returns-then-not-branch
returns-then-not-branch c = record {
  value =
      not_here _ _ _ c.if-not-branch.true
      (one_more c.args.netlist.now c.args.table.now c.args.steps.now c.loop-step.step-index _ c.loop-step-test.true c.args.netlist.now.«module» c.bytes.result.now c.name_of-instance.result.now c.loop-step.at c.args.names.now
      c.step_bits-count.result _ _ c.loop-step.invariant.within c.step_bits-count.ensures.value c.if-names-at.false c.bytes.ensures.value c.name_of-instance.ensures.value c.in_ok-name_one.ensures.value c.loop-step.invariant.same);
}

pub loop-step-preserved : goal.loop-step-preserved
loop-step-preserved c = record {
  within = omega (arith, c.loop-step.invariant.within, c.if-names-at.false);
  same =
      all_here _ _ _ c.if-not-branch.false
      (one_more c.args.netlist.now c.args.table.now c.args.steps.now c.loop-step.step-index _ c.loop-step-test.true c.args.netlist.now.«module» c.bytes.result.now c.name_of-instance.result.now c.loop-step.at c.args.names.now
      c.step_bits-count.result _ _ c.loop-step.invariant.within c.step_bits-count.ensures.value c.if-names-at.false c.bytes.ensures.value c.name_of-instance.ensures.value c.in_ok-name_one.ensures.value c.loop-step.invariant.same);
}

pub returns : goal.returns
returns c = record {
  value =
      none_left c.args.netlist.now.«module» c.args.netlist.now c.args.table.now c.args.steps.now c.args.names.now c.loop-step.step-index c.loop-step.at _ c.loop-step-test.false c.loop-step.invariant.within
      c.loop-step.invariant.same;
}
