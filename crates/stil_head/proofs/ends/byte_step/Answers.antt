use Rattle.std.proofs.Common.{◌∙◌}
use Rattle.stil_head.proofs.HeadWalk.{step_reached, step_found}
use Rattle.stil_head.proofs.ends.byte_step.Goals as goal

pub returns-in-Reached : goal.returns-in-Reached
returns-in-Reached c = record {
  value = step_reached c.args.bytes.now c.args.at c.args.scan c.in-Reached.next c.requires.within c.in-Reached.ensures.value;
}

pub returns-in-Found : goal.returns-in-Found
returns-in-Found c = record {
  value = c.after_found.ensures.value ∙ step_found c.args.bytes.now c.args.at c.args.scan c.in-Found.found c.requires.within c.in-Found.ensures.value;
}
