use Rattle.std.proofs.Common.{pos, ◌+◌, get_or, arith}
use Rattle.wire_cost.proofs.Slacks.{apart_over, apart_small}
use Rattle.wire_cost.proofs.blocks.way.Goals as goal

pub overflow_add-result : goal.overflow_add-result
overflow_add-result c =
    let x = apart_small (get_or c.args.xs.now c.args.one (pos 0)) (get_or c.args.xs.now c.args.other (pos 0)) c.abs_diff.result (c.requires.xs c.args.one c.requires.one_x) (c.requires.xs c.args.other c.requires.other_x) c.abs_diff.ensures in
    let y = apart_small (get_or c.args.ys.now c.args.one (pos 0)) (get_or c.args.ys.now c.args.other (pos 0)) c.abs_diff-2.result (c.requires.ys c.args.one c.requires.one_y) (c.requires.ys c.args.other c.requires.other_y) c.abs_diff-2.ensures in
    omega (arith, x, y)

pub returns-clause-value : goal.returns-clause-value
returns-clause-value c =
    let x = apart_over (get_or c.args.xs.now c.args.one (pos 0)) (get_or c.args.xs.now c.args.other (pos 0)) c.abs_diff.result (c.requires.xs c.args.one c.requires.one_x) (c.requires.xs c.args.other c.requires.other_x) c.abs_diff.ensures in
    let y = apart_over (get_or c.args.ys.now c.args.one (pos 0)) (get_or c.args.ys.now c.args.other (pos 0)) c.abs_diff-2.result (c.requires.ys c.args.one c.requires.one_y) (c.requires.ys c.args.other c.requires.other_y) c.abs_diff-2.ensures in
    (λ t. x t + y t)

pub returns-clause-small : goal.returns-clause-small
returns-clause-small c =
    let x = apart_small (get_or c.args.xs.now c.args.one (pos 0)) (get_or c.args.xs.now c.args.other (pos 0)) c.abs_diff.result (c.requires.xs c.args.one c.requires.one_x) (c.requires.xs c.args.other c.requires.other_x) c.abs_diff.ensures in
    let y = apart_small (get_or c.args.ys.now c.args.one (pos 0)) (get_or c.args.ys.now c.args.other (pos 0)) c.abs_diff-2.result (c.requires.ys c.args.one c.requires.one_y) (c.requires.ys c.args.other c.requires.other_y) c.abs_diff-2.ensures in
    omega (arith, x, y)
