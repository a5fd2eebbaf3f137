use Rattle.length_bound.specs.Growth.{AreLight}
use Rattle.length_bound.proofs.weights.move_weights.Given as goal

abbrev pub invariant-loop-i : goal.invariant-loop-i
invariant-loop-i l = AreLight l.weights
