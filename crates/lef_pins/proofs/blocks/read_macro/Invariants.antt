use Rattle.std.proofs.Common.{length}
use Rattle.lef_pins.specs.BlockReading.{macro_item_at}
use Rattle.lef_pins.specs.Blocks.{ends_named}
use Rattle.lef_pins.specs.Reading.{put_macro_item}
use Rattle.lef_pins.proofs.Loops.{Kept}
use Rattle.lef_pins.proofs.blocks.read_macro.Given as goal

abbrev pub invariant-loop-alloc : goal.invariant-loop-alloc
invariant-loop-alloc l = Kept (ends_named l.name) macro_item_at put_macro_item l.m l.fn.m l.rest l.fn.rest

abbrev pub decreases-loop-alloc : goal.decreases-loop-alloc
decreases-loop-alloc l = length l.rest
