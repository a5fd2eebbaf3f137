use Rattle.std.proofs.Common.{◌+◌, take, drop, ap, ◌∙◌, arith}
use Rattle.lane_kernels.proofs.Flips.{one_done, one_left}
use Rattle.lane_kernels.proofs.plain.flip_where.Goals as goal

pub loop-at-preserved : goal.loop-at-preserved
loop-at-preserved c =
    let before = c.loop-at.invariant in
    record {
      done = ap (take (c.loop-at.at + 1)) c.flip_at.ensures.value ∙ one_done c.loop-at.at c.args.symbols.now c.loop-at.symbols c.args.mask.now (omega arith) (omega arith) (omega arith) before.done before.left;
      left = ap (drop (c.loop-at.at + 1)) c.flip_at.ensures.value ∙ one_left c.loop-at.at _ c.args.symbols.now c.loop-at.symbols before.left;
    }
