use Rattle.std.proofs.Common.{◌-◌, length}
use Rattle.stil_calls.proofs.scan.data_near.Given as goal

abbrev pub decreases-loop-at : goal.decreases-loop-at
decreases-loop-at l = length l.items - l.at
