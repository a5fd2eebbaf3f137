use Rattle.std.proofs.Common.{◌≡◌, length}
use Rattle.lef_pins.specs.BlockReading.{inner_at, found_at}
use Rattle.lef_pins.specs.Blocks.{ends_shapes}
use Rattle.lef_pins.proofs.pins.pass_shapes.Given as goal

abbrev pub invariant-loop-rest : goal.invariant-loop-rest
invariant-loop-rest l = (found_at ends_shapes inner_at l.rest).1 ≡ (found_at ends_shapes inner_at l.fn.rest).1

abbrev pub decreases-loop-rest : goal.decreases-loop-rest
decreases-loop-rest l = length l.rest
