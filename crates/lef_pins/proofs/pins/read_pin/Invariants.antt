use Rattle.std.proofs.Common.{length}
use Rattle.lef_pins.specs.BlockReading.{pin_item_at}
use Rattle.lef_pins.specs.Blocks.{ends_named}
use Rattle.lef_pins.specs.Reading.{put_pin_item}
use Rattle.lef_pins.proofs.Loops.{Kept}
use Rattle.lef_pins.proofs.pins.read_pin.Given as goal

abbrev pub invariant-loop-rest : goal.invariant-loop-rest
invariant-loop-rest l = Kept (ends_named l.name) pin_item_at put_pin_item l.pin l.fn.pin l.rest l.fn.rest

abbrev pub decreases-loop-rest : goal.decreases-loop-rest
decreases-loop-rest l = length l.rest
