use Rattle.std.proofs.Common.{length}
use Rattle.verify_command.specs.Steps.{AreBeside}
use Rattle.verify_command.proofs.places.first_difference.Given as goal

abbrev pub invariant-loop-a : goal.invariant-loop-a
invariant-loop-a l = AreBeside l.map.0 l.map.1 l.fn.old l.fn.new l.at l.old l.new

abbrev pub decreases-loop-a : goal.decreases-loop-a
decreases-loop-a l = length l.old.statements
