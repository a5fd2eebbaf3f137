use Rattle.std.proofs.Common.{drop, rules, ◌∙◌}
use Rattle.path_links.proofs.BlankSides.{not_one, just_one}
use Rattle.path_links.proofs.assigns.is_sink_assign.Goals as goal

pub returns-then-min-ne1 : goal.returns-then-min-ne1
returns-then-min-ne1 c = record { value = not_one c.args.nets.now c.args.sinks.now c.args.left.now c.args.right.now (search rules) }

pub returns-in-Some : goal.returns-in-Some
returns-in-Some c = record {
  value = c.is_sink_bit.ensures.value ∙ just_one c.args.nets.now c.args.sinks.now c.args.left.now c.args.right.now c.in-Some.bit.now (drop 1 c.args.left.now) (search rules) (search rules);
}
