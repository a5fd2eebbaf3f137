use Rattle.std.proofs.Common.{length}
use Rattle.lef_pins.specs.BlockReading.{file_item_at}
use Rattle.lef_pins.specs.Blocks.{ends_never}
use Rattle.lef_pins.specs.Reading.{put_file_item, file_start}
use Rattle.lef_pins.proofs.Loops.{Kept}
use Rattle.lef_pins.proofs.file.read_file.Given as goal

abbrev pub invariant-loop-rest : goal.invariant-loop-rest
invariant-loop-rest l = Kept ends_never file_item_at put_file_item l.file file_start l.rest l.fn.rest

abbrev pub decreases-loop-rest : goal.decreases-loop-rest
decreases-loop-rest l = length l.rest
