use Rattle.std.proofs.Common.{pos, ◌+◌, arith}
use Rattle.std.proofs.lemmas.List.Edits.{swapped_from_swap}
use Rattle.std.proofs.lemmas.List.Sorted.{IsPermutation-trans}
use Rattle.length_bound.specs.Growth.{no_place}
use Rattle.length_bound.proofs.Growths.{grown_more, near_permuted}
use Rattle.length_bound.proofs.growth.grow.Goals as goal

pub loop-k-preserved : goal.loop-k-preserved
loop-k-preserved c =
    let k = c.loop-k.k in
    let at = c.nearest_from-nearest.result in
    let row = c.loop-k.row in
    let row2 = c.swap.new.self in
    let near1 = c.approach.new.near in
    let near2 = c.swap-in-loop-k.new.self in
    let step = c.approach.ensures in
    let count = c.loop-k.invariant.grown.count in
    record {
      same = IsPermutation-trans c.args.row.now row row2 c.loop-k.invariant.same c.swap.ensures.permutation;
      places = near_permuted row row2 c.swap.ensures.permutation c.loop-k.invariant.places;
      grown = grown_more c.args.n row c.loop-k.near near1 k c.loop-k.invariant.grown step.before step.lower step.under row2 near2 at step.small step.near c.swap.ensures.len c.swap-in-loop-k.ensures.len c.nearest_from-nearest.ensures.behind
          c.nearest_from-nearest.ensures.within c.nearest_from-nearest.ensures.least (swapped_from_swap row row2 (k + 1) at no_place (omega arith) (omega arith) c.swap.ensures.after)
          (swapped_from_swap near1 near2 (k + 1) at (pos 0) (omega arith) (omega arith) c.swap-in-loop-k.ensures.after);
      from = omega arith;
    }
