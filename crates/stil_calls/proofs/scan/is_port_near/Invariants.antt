use Rattle.std.proofs.Common.{◌-◌, length}
use Rattle.stil_calls.proofs.scan.is_port_near.Given as goal

abbrev pub decreases-loop-at : goal.decreases-loop-at
decreases-loop-at l = length l.chains - l.at
