use Rattle.std.proofs.Common.{List, ℕ, ◌+◌, arith, ap, take, drop, ◌∙◌}
use Rattle.lane_kernels.proofs.Flips.{block_done, block_left, one_done, one_left}
use Rattle.lane_kernels.proofs.bytes.flip_where.Goals as goal

pub loop-at-preserved : goal.loop-at-preserved
loop-at-preserved c =
    let old : List ℕ = c.args.symbols.now in
    let now : List ℕ = c.loop-at.symbols in
    let masks : List ℕ = c.args.mask.now in
    let before = c.loop-at.invariant in
    record {
      within = omega arith;
      done = ap (take (c.loop-at.at + 32)) c.flip_in.ensures ∙ block_done c.loop-at.at old now masks (omega arith) (omega arith) (omega arith) before.done before.left;
      left = ap (drop (c.loop-at.at + 32)) c.flip_in.ensures ∙ block_left c.loop-at.at old now masks (omega arith) (omega arith) before.left;
    }

pub loop-at-2-preserved : goal.loop-at-2-preserved
loop-at-2-preserved c =
    let before = c.loop-at-2.invariant in
    record {
      within = omega arith;
      done = ap (take (c.loop-at-2.at + 1)) c.flip_at.ensures.value ∙ one_done c.loop-at-2.at c.args.symbols.now c.loop-at-2.symbols c.args.mask.now (omega arith) (omega arith) c.loop-at-2-test.true before.done before.left;
      left = ap (drop (c.loop-at-2.at + 1)) c.flip_at.ensures.value ∙ one_left c.loop-at-2.at _ c.args.symbols.now c.loop-at-2.symbols before.left;
    }
