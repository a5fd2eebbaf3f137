use Rattle.std.proofs.Common.{length}
use Rattle.verify_command.specs.Steps.{GoOn}
use Rattle.verify_command.proofs.statement_notes.first_unlike.Given as goal

abbrev pub invariant-loop-a : goal.invariant-loop-a
invariant-loop-a l = GoOn l.fn.old l.old × GoOn l.fn.new l.new

abbrev pub decreases-loop-a : goal.decreases-loop-a
decreases-loop-a l = length l.old.statements
