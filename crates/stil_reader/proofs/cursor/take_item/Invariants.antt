use Rattle.std.proofs.Common.{length}
use Rattle.stil_reader.specs.Cursors.{Leaves}
use Rattle.stil_reader.proofs.cursor.take_item.Given as goal

abbrev pub invariant-loop-step : goal.invariant-loop-step
invariant-loop-step l = Leaves l.head l.fn.point l.fn.rest l.at l.left

abbrev pub decreases-loop-step : goal.decreases-loop-step
decreases-loop-step l = length l.left
