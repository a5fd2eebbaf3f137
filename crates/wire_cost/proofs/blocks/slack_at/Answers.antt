use Rattle.std.proofs.Common.{pos, ◌+◌, get_or, ap, ◌∙◌, arith}
use Rattle.std.specs.Prelude.{◌-ℤ◌, unsigned_abs}
use Rattle.wire_cost.proofs.Slacks.{slack_fits, slack_kept, slack_small}
use Rattle.wire_cost.proofs.blocks.slack_at.Goals as goal

pub overflow_sub-result : goal.overflow_sub-result
overflow_sub-result c = slack_fits (get_or c.args.turned.now c.args.unit (pos 0)) (c.way.result + c.way-2.result) (c.requires.turned c.args.unit c.requires.unit) (omega arith)

pub returns-clause-value : goal.returns-clause-value
returns-clause-value c = slack_kept (get_or c.args.turned.now c.args.unit (pos 0)) (c.way.result + c.way-2.result) (c.requires.turned c.args.unit c.requires.unit) (omega arith)
    ∙ (λ t. get_or c.args.turned.now c.args.unit (pos 0) -ℤ pos (c.way.ensures.value t + c.way-2.ensures.value t))

pub returns-clause-small : goal.returns-clause-small
returns-clause-small c =
    let e = ap unsigned_abs (slack_kept (get_or c.args.turned.now c.args.unit (pos 0)) (c.way.result + c.way-2.result) (c.requires.turned c.args.unit c.requires.unit) (omega arith)) in
    omega (arith, e, slack_small (get_or c.args.turned.now c.args.unit (pos 0)) (c.way.result + c.way-2.result) (c.requires.turned c.args.unit c.requires.unit) (omega arith))
