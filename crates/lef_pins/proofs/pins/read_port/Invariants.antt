use Rattle.std.proofs.Common.{length}
use Rattle.lef_pins.specs.BlockReading.{inner_at}
use Rattle.lef_pins.specs.Blocks.{ends_shapes}
use Rattle.lef_pins.specs.Reading.{put_rect}
use Rattle.lef_pins.proofs.Loops.{Kept}
use Rattle.lef_pins.proofs.pins.read_port.Given as goal

abbrev pub invariant-loop-rest : goal.invariant-loop-rest
invariant-loop-rest l = Kept ends_shapes inner_at put_rect l.pin l.fn.pin l.rest l.fn.rest

abbrev pub decreases-loop-rest : goal.decreases-loop-rest
decreases-loop-rest l = length l.rest
